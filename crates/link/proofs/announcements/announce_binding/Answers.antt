use mathlib.Core.List.{List, [], ◌∷◌, ◌++◌}
use mathlib.Core.Path.{◌≡◌, sym, ap, subst, ◌∙◌}
use Prim.Native.Nat.{ℕ, ◌+◌, ◌≤◌}
use native.Mathlib.Omega.{arith}
use lib.ListN.{length, take, length-append}
use Rattle.wire.specs.Bytes.{little_endian, straight, writes}
use Rattle.wire.proofs.Positions.{length-wrote}
use Rattle.link.specs.Parts.{HandsOn}
use Rattle.link.proofs.PushCalls.{made_ready}
use Rattle.link.proofs.announcements.announce_binding.Goals as goal
use Rattle.link.proofs.announcements.announce_binding.Goals.{After-write_binding}

-- a binding's message
abbrev binding : List ℕ → List ℕ
binding n = little_endian 4 (length n + 1) ++ n ++ (0 ∷ [])

binding-length : (n : List ℕ) → length n + 5 ≡ length (binding n)
unfolding little_endian
binding-length n = simp length-append (omega arith)

-- as it was made ready
long : (c : After-write_binding) → length c.write_binding.new.tx ≡ 36
long c = ap length c.write_binding.ensures ∙ length-wrote _ _

short : (c : After-write_binding) → length c.args.name.now ≤ 31
short c = c.requires.0

ready : (c : After-write_binding) → let n = c.args.name.now in take (length n + 5) c.write_binding.new.tx ≡ binding n
ready c =
    let short : length c.args.name.now ≤ 31 = c.requires.0 in
    let n = c.args.name.now in
    ap (take (length n + 5)) c.write_binding.ensures ∙ made_ready _ (binding n) (length n + 5) (binding-length n) (omega (arith, short))

pub write_binding-requires : goal.write_binding-requires
write_binding-requires c = (c.requires.0, omega (arith, c.requires.0))

pub overflow_add-message : goal.overflow_add-message
overflow_add-message c = omega (arith, short (goal.at.overflow_add-message c).After-write_binding)

pub slice_bounds-message-end : goal.slice_bounds-message-end
slice_bounds-message-end c = omega (arith, short (goal.at.slice_bounds-message-end c).After-write_binding, long (goal.at.slice_bounds-message-end c).After-write_binding)

pub slice_bounds-announce-end : goal.slice_bounds-announce-end
slice_bounds-announce-end c = binding-length c.args.name.now ∙ ap length (sym (ready (goal.at.slice_bounds-announce-end c).After-write_binding))

pub announce-requires : goal.announce-requires
announce-requires c = omega (arith, ap length (ready (goal.at.announce-requires c).After-write_binding), binding-length c.args.name.now, c.requires.1)

pub returns : goal.returns
returns c =
    let a = c.args in
    subst (λ (m : List ℕ). HandsOn c.announce.result a.n a.tx.now (writes (straight a.at) m) a.control c.announce.new.tx) (ready (goal.at.returns c).After-write_binding) c.announce.ensures
