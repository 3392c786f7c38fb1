-- The two arrivals that read receive bytes, as plain equations on the bytes: what a contract's proof cites.
use Prim.Native.Nat.{ℕ, zero, suc, min}
use mathlib.Core.Bool.{Bool, true, false, not}
use mathlib.Core.Path.{◌≡◌, refl, sym, ap, ◌∙◌}
use mathlib.Core.List.{List, [], ◌∷◌}
use lib.Dec.{leb, ltb, eqb}
use lib.ListN.{get_or}
use Rattle.wire.specs.Choice.{pick}
use Rattle.wire.specs.Reads.{gives, answer}
use Rattle.icbmsg.specs.Outcome.{Outcome, refused, Rule, check}
use Rattle.blocks.specs.Search.{is_found}
use Rattle.blocks.specs.Tables.{blocks_for}
use Rattle.blocks.specs.Names.{Name, endless, name, longer, name_in}
use Rattle.icbmsg.specs.Arrivals.{bound_rule, bound_sized, bound_named, up_to_zero, fits_area, are_free, receiver, delivered, data_rule}
use Rattle.icbmsg.specs.Reading.{size_in, content_at}
use Rattle.icbmsg.proofs.RulesRead.{answer-guard}
use Rattle.icbmsg.specs.End.{End}

answer-pick : (b : Bool) (t u : Rule) (r : List ℕ) → answer (pick b t u) r ≡ pick b (answer t r) (answer u r)
answer-pick true t u r = refl
answer-pick false t u r = refl

-- kind 0
pub data_flat : (e : End) (a b : ℕ) (r : List ℕ) → answer (data_rule e a b) r ≡
    check (leb a 0xFD) 14 e
    (check (is_found (receiver e a)) 15 e
    (check (ltb b e.rx.block_count) 16 e
    (check (fits_area e.rx b (size_in e b r)) 17 e
    (check (are_free e.held e.rx b (size_in e b r)) 18 e
    (delivered e a b (size_in e b r))))))
unfolding data_rule
data_flat e a b r = simp answer-guard

abbrev pub with_name : End → (List ℕ → Outcome) → Name → Outcome
with_name e f endless = refused e 20
with_name e f (name cs) = f cs

with-longer : (e : End) (c : ℕ) (f : List ℕ → Outcome) (m : Name) → with_name e (λ cs. f (c ∷ cs)) m ≡ with_name e f (longer c m)
with-longer e c f endless = refl
with-longer e c f (name cs) = refl

with-pick : (e : End) (f : List ℕ → Outcome) (b : Bool) (m k : Name) → with_name e f (pick b m k) ≡ pick b (with_name e f m) (with_name e f k)
with-pick e f true m k = refl
with-pick e f false m k = refl

name_flat : (e : End) (n p : ℕ) (f : List ℕ → Outcome) (r : List ℕ) → answer (up_to_zero e n p (λ cs. gives (f cs))) r ≡ with_name e f (name_in n p r)
name_flat e zero p f r = refl
name_flat e (suc n) p f r =
    let c : ℕ = get_or r p 0 in
    answer-pick (eqb c 0) (gives (f [])) (up_to_zero e n (suc p) (λ cs. gives (f (c ∷ cs)))) r
    ∙ ap (λ (o : Outcome). pick (eqb c 0) (f []) o) (name_flat e n (suc p) (λ cs. f (c ∷ cs)) r ∙ with-longer e c f (name_in n (suc p) r))
    ∙ sym (with-pick e f (eqb c 0) (name []) (longer c (name_in n (suc p) r)))

-- kind 2
pub bound_flat : (e : End) (a b : ℕ) (r : List ℕ) → answer (bound_rule e a b) r ≡
    check (not e.initiator) 19 e
    (check (leb a 0xFD) 14 e
    (check (ltb b e.rx.block_count) 16 e
    (check (fits_area e.rx b (size_in e b r)) 17 e
    (check (are_free e.held e.rx b (size_in e b r)) 18 e
    (with_name e (bound_named e a b (blocks_for e.rx.block_size (size_in e b r))) (name_in (min (size_in e b r) 32) (content_at e b) r))))))
unfolding bound_rule bound_sized
bound_flat e a b r = simp (answer-guard, name_flat)
