use Prim.Native.Nat.{ℕ, ◌+◌, ◌-◌, ◌≤◌}
use mathlib.Core.Path.{◌∙◌}
use native.Mathlib.Omega.{arith}
use lib.ListN.{length}
use Rattle.tables.proofs.Bits.{cleared}
use Rattle.tables.proofs.Entries.{taken-changed, three_bytes}
use Rattle.tables.proofs.take_run.Goals as goal

pub returns : goal.returns
returns c =
    let a = c.args in
    let p = c.requires in
    let m = c.mark.ensures in
    let least : a.base.at ≤ 1568 = a.base.inside in
    let first : ℕ = a.base.at + 32 + a.s + 1 in
    let end : ℕ = a.base.at + 32 + a.s + a.n in
    let fits : end ≤ length c.mark.new.t = omega (arith, c.mark.array_long) in
    let k = cleared _ _ first end (omega arith) fits (c.fill.ensures.after (λ y h. h)) (first + (a.n - 1)) (omega arith) in
    let w = three_bytes a.k _ p.2 c.to_le_bytes.ensures in
    rw (c.state_of.ensures, w.0, w.1, w.2) (taken-changed _ _ _ _ _ _ _ _ _ p.0 p.1 p.3 (k.long ∙ c.mark.array_long) least m k)
