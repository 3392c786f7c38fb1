-- D3: a newer partner changes nothing.
use Prim.Native.Nat.{ℕ, zero, suc, ◌+◌, ◌-◌, ◌*◌, ◌≤◌, ◌<◌, min}
use mathlib.Core.Bool.{Bool, true, false, not}
use mathlib.Core.Path.{◌≡◌, refl, sym, ap, subst, ◌∙◌}
use mathlib.Core.List.{List, [], ◌∷◌, ◌++◌}
use native.Mathlib.Omega.{arith}
use native.Mathlib.Nat.{add-zero}
use lib.Dec.{leb, ltb, eqb}
use lib.ListN.{length, get_or}
use borrow.Author.Tests.{le-leb, lt-ltb, eq-eqb}
use Rattle.wire.specs.Choice.{pick}
use Rattle.wire.specs.Reads.{gives, reads, answer, Agree}
use Rattle.icbmsg.specs.Outcome.{Outcome, Rule, guard}
use Rattle.blocks.specs.Tables.{blocks_for}
use Rattle.icbmsg.specs.Ends.{is_open, whole}
use Rattle.icbmsg.specs.Opening.{opening}
use Rattle.icbmsg.specs.Messages.{view_of}
use Rattle.icbmsg.specs.Arrivals.{decode, arrival_rule, bound_rule, bound_sized, bound_named, up_to_zero, are_free}
use Rattle.icbmsg.specs.declared.Control.TheVariants.{UnknownKind}
use Rattle.icbmsg.specs.Calls.{Call, pull, arrival, rule, read_from, step, run}
use Rattle.icbmsg.specs.Reading.{reading, size_in, content_at}
use Rattle.icbmsg.specs.NewerPartner.{Grown, Change, unchanged, longer, grown, pulls, arrives, views, both, Unknown, unknown_kind, Item, keep, insert, first_calls, second_calls, Allowed, ignored, with_ignored, NewerPartner}
use Rattle.wire.proofs.Trees.{same_answer}
use Rattle.blocks.proofs.LeastBlocks.{fits_too}
use Rattle.icbmsg.proofs.RulesRead.{rules_read}
use Rattle.icbmsg.specs.End.{End}

-- bytes that are not read
others : (e : End) (c : Call) (t' : Rule) (r' : List ℕ) → t' ≡ rule e c → Agree (reading e c) (read_from c) r' → answer t' r' ≡ answer (rule e c) (read_from c)
others e c t' r' q h =
    rw q (sym (same_answer (rule e c) (read_from c) r' (subst (λ (ps : List ℕ). Agree ps (read_from c) r') (sym (rules_read e c)) h)))

-- more bytes behind three
decode-longer : (m more : List ℕ) → 3 ≤ length m → decode (m ++ more) ≡ decode m
decode-longer [] more h = absurd (omega arith)
decode-longer (k ∷ []) more h = absurd (omega arith)
decode-longer (k ∷ a ∷ []) more h = absurd (omega arith)
decode-longer (k ∷ a ∷ b ∷ m) more h = refl

-- two rules, each on its own bytes, with one outcome
record Same (t t' : Rule) (r r' : List ℕ) : Type 0 where
  is : answer t' r' ≡ answer t r

-- a choice and a check that both rules make
picked : (b : Bool) {t t' u u' : Rule} {r r' : List ℕ} → Same t t' r r' → Same u u' r r' → Same (pick b t u) (pick b t' u') r r'
picked true h k = h
picked false h k = k

checked : (b : Bool) (n : ℕ) (e : End) {t t' : Rule} {r r' : List ℕ} → Same t t' r r' → Same (guard b n e t) (guard b n e t') r r'
checked true n e h = h
checked false n e h = record { is = refl }

-- a byte c that both read
read : {p : ℕ} (c : ℕ) (k k' : ℕ → Rule) {r r' : List ℕ} → get_or r p 0 ≡ c → get_or r' p 0 ≡ c → Same (k c) (k' c) r r' → Same (reads p k) (reads p k') r r'
read c k k' h h' s = record { is = rw (h, h') s.is }

-- of a name that ends, the bytes up to its zero decide, however many more may be looked at
names : (e : End) (n n' p z : ℕ) (k : List ℕ → Rule) (r r' : List ℕ) → z < n → n ≤ n' → get_or r (p + z) 0 ≡ 0 →
    ((i : ℕ) → i < n → get_or r' (p + i) 0 ≡ get_or r (p + i) 0) →
    ((cs : List ℕ) → Same (k cs) (k cs) r r') →
    Same (up_to_zero e n p k) (up_to_zero e n' p k) r r'
names e zero n' p z k r r' h h' q same ks = absurd (omega arith)
names e (suc n) zero p z k r r' h h' q same ks = absurd (omega arith)
names e (suc n) (suc n') p zero k r r' h h' q same ks =
    let c : get_or r p 0 ≡ 0 = rw add-zero at q in
    let c' : get_or r' p 0 ≡ 0 = rw add-zero at (same 0 h) ∙ c in
    read 0 _ _ c c' (ks [])
names e (suc n) (suc n') p (suc z) k r r' h h' q same ks =
    let c : get_or r' p 0 ≡ get_or r p 0 = rw add-zero at (same 0 (omega arith)) in
    let later : (i : ℕ) → p + suc i ≡ suc p + i = λ i. omega arith in
    let rest = names e n n' (suc p) z (λ cs. k (get_or r p 0 ∷ cs)) r r' (omega arith) (omega arith) (rw later at q)
    (λ i l. rw later at (same (suc i) (omega arith))) (λ cs. ks (get_or r p 0 ∷ cs)) in
    read (get_or r p 0) _ _ refl c (picked (eqb (get_or r p 0) 0) (ks []) rest)

sized : (e : End) (a b k k' z : ℕ) {r r' : List ℕ} → k + 4 ≤ (e.rx.block_count - b) * e.rx.block_size → k' + 4 ≤ (e.rx.block_count - b) * e.rx.block_size →
    blocks_for e.rx.block_size k' ≡ blocks_for e.rx.block_size k → k ≤ k' → z < k → z < 32 → get_or r (content_at e b + z) 0 ≡ 0 →
    ((i : ℕ) → i < k → get_or r' (content_at e b + i) 0 ≡ get_or r (content_at e b + i) 0) →
    Same (bound_sized e a b k) (bound_sized e a b k') r r'
unfolding bound_sized
sized e a b k k' z {r} {r'} f f' bl l i y q same =
    rw (le-leb (k + 4) ((e.rx.block_count - b) * e.rx.block_size) f, le-leb (k' + 4) ((e.rx.block_count - b) * e.rx.block_size) f', bl)
    (checked (are_free e.held e.rx b k) 18 e
    (names e (min k 32) (min k' 32) (content_at e b) z (λ name. gives (bound_named e a b (blocks_for e.rx.block_size k) name)) r r'
    (omega arith) (omega arith) q (λ j h. same j (omega arith)) (λ cs. record { is = refl })))

same_bound : (e : End) (a b : ℕ) {r r' : List ℕ} → Grown e b r r' → Same (bound_rule e a b) (bound_rule e a b) r r'
unfolding bound_rule
same_bound e a b {r} {r'} g =
    checked (not e.initiator) 19 e
    (checked (leb a 0xFD) 14 e
    (checked (ltb b e.rx.block_count) 16 e
    (record { is = (sized e a b (size_in e b r) (size_in e b r') g.zero_at g.fitting (fits_too e.rx.block_size (size_in e b r) (size_in e b r') (e.rx.block_count - b) g.fitting g.blocks) g.blocks g.larger g.inside g.early g.ended g.stays).is })))

same_step : (e : End) {c d : Call} → Change e c d → step e d ≡ step e c
unfolding step rule read_from arrival_rule view_of
same_step e unchanged = refl
same_step e (longer {m = m} more h) = rw (decode-longer m more h)
same_step e (grown {r = r} {r' = r'} {m = m} a b q g) =
    rw (q, g.lent, g.lent') (checked (whole e e.rx e.rx.length) 6 e (same_bound e a b g)).is
same_step e (pulls {r = r} {r' = r'} {b = b} q h) = others e (pull r b) (rule e (pull r' b)) r' (rw q) h
same_step e (arrives {r = r} {r' = r'} {m = m} q h) = others e (arrival r m) (rule e (arrival r' m)) r' (rw q) h
same_step e (views {r = r} {r' = r'} {s = s} q) = rw q
same_step e (both h k) = same_step e k ∙ same_step e h

-- an unknown kind
decode_unknown : (k : ℕ) (m : List ℕ) → 3 < k → decode (k ∷ m) ≡ UnknownKind
decode_unknown k [] h = rw (lt-ltb 3 k h)
decode_unknown k (a ∷ []) h = rw (lt-ltb 3 k h)
decode_unknown k (a ∷ b ∷ m) h = rw (lt-ltb 3 k h)

insert-step : (e : End) {d : Call} → Unknown e d → step e d ≡ ignored e
unfolding step rule read_from arrival_rule
insert-step e (unknown_kind {rx = rx} {m = m} k hk hw) = go (is_open e) refl
  where
    go : (o : Bool) → is_open e ≡ o → step e (arrival rx (k ∷ m)) ≡ ignored e
    go true q = rw (q, eq-eqb (length rx) e.rx.length (hw q), decode_unknown k m hk)
    go false q = rw q

from-any : (e : End) (s : List Item) → Allowed e s → run e (second_calls s) ≡ with_ignored e s (run e (first_calls s))
unfolding run
from-any e [] h = refl
from-any e (keep c d ∷ s) h = rw (same_step e h.0) (ap (λ (os : List Outcome). step e c ∷ os) (from-any (step e c).next s h.1))
from-any e (insert d ∷ s) h = rw (insert-step e h.0) (ap (λ (os : List Outcome). ignored e ∷ os) (from-any e s h.1))

pub newer_partner : NewerPartner
newer_partner o s h = from-any (opening o).next s h
