use Prim.Native.Nat.{◌^◌, ◌<◌}
use native.Mathlib.Nat.{one-mul, mod-eq_of_lt}
use native.Mathlib.Omega.{arith}
use lib.Pow.{pow-lt}
use Rattle.sheet.specs.Tags.{with_bit}
use Rattle.sheet.proofs.with_bit.Goals as goal

pub returns : goal.returns
unfolding with_bit
returns c =
    let k = c.args.k in
    let h : k < 64 = omega arith in
    rw (one-mul (2 ^ k), mod-eq_of_lt (pow-lt h))
