use mathlib.Core.List.{List}
use mathlib.Core.Path.{◌≡◌, refl, sym, ap, subst, ◌∙◌}
use Prim.Native.Nat.{ℕ}
use native.Mathlib.Omega.{arith}
use lib.ListN.{length}
use Rattle.wire.specs.Bytes.{little_endian, straight, writes}
use Rattle.wire.proofs.Positions.{length-wrote}
use Rattle.link.specs.Parts.{HandsOn}
use Rattle.link.proofs.PushCalls.{filled}
use Rattle.link.proofs.announcements.announce_data.Goals as goal
use Rattle.link.proofs.announcements.announce_data.Goals.{After-write_u32}

-- the header as it was made ready
long : (c : After-write_u32) → length c.write_u32.new.s ≡ 4
long c = ap length c.write_u32.ensures ∙ length-wrote _ _

pub slice_bounds-announce-end : goal.slice_bounds-announce-end
slice_bounds-announce-end c = sym (long (goal.at.slice_bounds-announce-end c).After-write_u32)

pub announce-requires : goal.announce-requires
announce-requires c = omega (arith, long (goal.at.announce-requires c).After-write_u32, c.requires)

pub returns : goal.returns
unfolding little_endian
returns c =
    let a = c.args in
    let ready : c.write_u32.new.s ≡ little_endian 4 a.k = c.write_u32.ensures ∙ filled _ _ refl in
    subst (λ (m : List ℕ). HandsOn c.announce.result a.n a.tx.now (writes (straight a.at) m) a.control c.announce.new.tx) ready c.announce.ensures
