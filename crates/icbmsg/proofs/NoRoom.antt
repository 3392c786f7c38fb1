-- What reserving gives, for reserve and for register: too long, no room, or the lowest run.
use Prim.Native.Nat.{ℕ, ◌+◌, ◌≤◌, ◌<◌}
use mathlib.Core.Bool.{Bool, true, false, not, ◌&&◌, false≢true}
use mathlib.Core.Path.{◌≡◌, refl, sym, ◌∙◌}
use mathlib.Core.List.{List}
use native.Mathlib.Omega.{arith}
use lib.Dec.{leb}
use lib.ListN.{length}
use borrow.Author.Tests.{leb-true, leb-false, le-leb, not-true}
use Rattle.wire.specs.Choice.{pick}
use Rattle.wire.specs.Reads.{answer}
use Rattle.icmsg.proofs.Indexes.{push_refused_low}
use Rattle.blocks.specs.Search.{Search, nowhere, found_at}
use Rattle.blocks.specs.Tables.{all_free, free_run}
use Rattle.blocks.proofs.LeastBlocks.{blocks_hold, blocks_least, blocks-one}
use Rattle.blocks.proofs.Search.{lowest-at, none-lowest}
use Rattle.blocks.proofs.Tables.{free-at, all-free}
use Rattle.endpoints.specs.Endpoints.{at, is_unused, registered, endpoint_at, binding_at, some_endpoint, unused_from, holds, good_name}
use Rattle.icbmsg.specs.Outcome.{Outcome, check}
use Rattle.icbmsg.specs.Ends.{is_open, whole, found_or}
use Rattle.icbmsg.specs.Rings.{transmit_ring, all_or_nothing}
use Rattle.icbmsg.specs.Messages.{need, reserving, reservation, reserve_of}
use Rattle.icbmsg.specs.Registering.{announcement, followed, initiates, register_of}
use Rattle.icbmsg.specs.Calls.{reserve, rule, read_from, step}
use Rattle.icbmsg.specs.Theorems.{FreeRun, Crowded, Reserves, too_long, no_room, at_lowest, Registers, NeedLeast, ReserveSays, NoRoom}
use Rattle.icbmsg.specs.Pushing.{PushedOrNot, nothing_to_push, not_pushed, is_pushed}
use Rattle.icbmsg.specs.End.{End}
use Rattle.icbmsg.proofs.AllOrNothing.{all_or_nothing_lem}
use Rattle.icbmsg.proofs.Claims.{Claim, past, past-found}
use Rattle.icbmsg.proofs.Effects.{sound, whole_open}

-- LEAST. The need is the least number of blocks that hold K + 4 bytes.
pub need_least : NeedLeast
need_least e k o =
    let z = sound e o in
    let p : 0 < e.tx.block_size = omega (arith, leb-true) in
    (blocks_hold e.tx.block_size k p, λ n h. blocks_least e.tx.block_size k n h p)

-- what reserving K bytes gives at an open end, whatever is done with the run
module _ (e : End) (k : ℕ) (open-end : is_open e ≡ true) where
  one : 1 ≤ need e k
  one = let z = sound e open-end in blocks-one e.tx.block_size k (omega (arith, leb-true))

  -- no start where the test failed
  none-at : (i : ℕ) → (leb (i + need e k) e.tx.block_count && all_free e.sent i (need e k)) ≡ false → FreeRun e (need e k) i → ⊥
  none-at i h f = false≢true (sym h ∙ rw (le-leb (i + need e k) e.tx.block_count f.0) (all-free e.sent i (need e k) f.1))

  reserves : (f : ℕ → Outcome) → Reserves e k f (reserving e k f)
  unfolding free_run
  reserves f = go (leb (need e k) e.tx.block_count) (free_run e.tx.block_count e.sent (need e k)) refl refl
    where
      go : (b : Bool) (q : Search) → leb (need e k) e.tx.block_count ≡ b → free_run e.tx.block_count e.sent (need e k) ≡ q → Reserves e k f (check b 23 e (found_or 24 e f q))
      go false q h r = too_long (leb-false (need e k) e.tx.block_count h)
      go true nowhere h r =
          no_room (record {
            could_fit = leb-true (need e k) e.tx.block_count h;
            no_run = λ s z. none-at s (none-lowest e.tx.block_count e.sent 0 (need e k) e.tx.block_count r s (omega arith) (omega (arith, z.0, one))) z;
          })
      go true (found_at s) h r =
          let w = lowest-at e.tx.block_count e.sent 0 (need e k) e.tx.block_count s r in
          at_lowest s (leb-true (need e k) e.tx.block_count h) (w.room, λ i p q. free-at e.sent s (need e k) i w.free-there p q)
          (λ i l z. none-at i (w.least i (omega arith) l) z)

-- ---- register: at an open end, past its checks, it reserves

register-reserves : (e : End) (tx n : List ℕ) (i : ℕ) → Registers e tx n i → register_of e (length tx) n ≡ initiates e n i
unfolding register_of
register-reserves e tx n i h = rw (h.lent, h.name, h.unregistered, h.place, h.initiator)

-- the ring does not come before 23 and 24
reserves-first : {e : End} {k : ℕ} {f : ℕ → Outcome} {x : Outcome} (tx : List ℕ) → Reserves e k f x →
    Reserves e k (λ s. answer (all_or_nothing e (length tx) (f s)) tx) (answer (all_or_nothing e (length tx) x) tx)
unfolding all_or_nothing
reserves-first tx (too_long l) = too_long l
reserves-first tx (no_room c) = no_room c
reserves-first tx (at_lowest s l r m) = at_lowest s l r m

pub reserve_says : ReserveSays
unfolding step rule read_from reserve_of initiates
reserve_says =
    record {
      reserve = λ e k o. rw o (reserves e k o (reservation e k));
      register = λ e tx n i h.
          rw (register-reserves e tx n i h)
          (reserves-first tx (reserves e (length n + 1) (whole_open e e.tx (length tx) h.lent) (announcement e n i (unused_from 8 0 e.endpoints))));
    }

-- ---- 24

-- the number of what reserving gives
module _ {e : End} {k : ℕ} {f : ℕ → Outcome} where
  is_crowded : {x : Outcome} → ((s : ℕ) → (f s).number ≡ 0) → Reserves e k f x → x.number ≡ 24 → Crowded e k
  is_crowded z (too_long l) h = absurd (omega arith)
  is_crowded z (no_room c) h = c
  is_crowded z (at_lowest s l r m) h = absurd (omega (arith, z s))

  crowded_is : {x : Outcome} → Reserves e k f x → Crowded e k → x.number ≡ 24
  crowded_is (too_long l) c = absurd (omega (arith, c.could_fit))
  crowded_is (no_room c) _ = refl
  crowded_is (at_lowest s l r m) c = absurd (c.no_run s r)

-- an outcome whose number is 24 tells A: only past the checks before it
abbrev Tells : Type 0 → Outcome → Type 0
Tells A o = o.number ≡ 24 → A

follower_not : {A : Type 0} (e : End) (n : List ℕ) (i : ℕ) (q : Search) → Claim (Tells A) (followed e n i q)
follower_not e n i nowhere = record { holds = λ h. absurd (omega arith) }
follower_not e n i (found_at j) = record { holds = λ h. absurd (omega arith) }

reserve_24 : (e : End) (k : ℕ) → Claim (Tells ((is_open e ≡ true) × Crowded e k)) (step e (reserve k))
unfolding step rule read_from reserve_of
reserve_24 e k = past e (is_open e) 6 (λ d. absurd (omega arith)) λ o. record { holds = λ h. (o, is_crowded (λ s. refl) (reserves e k o (reservation e k)) h) }

register_24 : (e : End) (tx n : List ℕ) → Claim (Tells ((i : ℕ) × Registers e tx n i × Crowded e (length n + 1))) (register_of e (length tx) n)
unfolding register_of initiates
register_24 e tx n =
    past e (whole e e.tx (length tx)) 6 (λ d. absurd (omega arith)) λ w.
    past e (good_name 31 n) 20 (λ d. absurd (omega arith)) λ g.
    past e (not (some_endpoint (registered n) e.endpoints)) 21 (λ d. absurd (omega arith)) λ u.
    past-found e (endpoint_at (at is_unused) e.endpoints) 22 (λ d. absurd (omega arith)) λ i p.
    go e.initiator i refl (λ l. record { lent = w; name = g; unregistered = not-true _ u; place = p; initiator = l }) (whole_open e e.tx (length tx) w)
  where
    go : (r : Bool) (i : ℕ) → e.initiator ≡ r → (e.initiator ≡ true → Registers e tx n i) → is_open e ≡ true →
        Claim (Tells ((i : ℕ) × Registers e tx n i × Crowded e (length n + 1)))
        (pick r (reserving e (length n + 1) (announcement e n i (unused_from 8 0 e.endpoints))) (followed e n i (binding_at (holds e.rx.block_count n) e.bindings)))
    go true i r k o = record { holds = λ h. (i, k r, is_crowded (λ s. refl) (reserves e (length n + 1) o (announcement e n i (unused_from 8 0 e.endpoints))) h) }
    go false i r k o = follower_not e n i (binding_at (holds e.rx.block_count n) e.bindings)

-- the ring never answers 24
pushed_tells : {A : Type 0} {e : End} {tx : List ℕ} {o o' : Outcome} → PushedOrNot e tx o o' → Tells A o → Tells A o'
pushed_tells (nothing_to_push q) k h = k h
pushed_tells {e = e} {tx = tx} (not_pushed c n q r l) k h = absurd (omega (arith, push_refused_low tx (transmit_ring e) e.write c n r, h))
pushed_tells (is_pushed c m i q r) k h = k h

pub no_room_exactly : NoRoom
unfolding step rule read_from
no_room_exactly =
    record {
      reserve = λ e k. ((reserve_24 e k).holds, λ h. crowded_is (reserve_says.reserve e k h.0) h.1);
      register = λ e tx n. (
        pushed_tells (all_or_nothing_lem e tx (register_of e (length tx) n)) (register_24 e tx n).holds,
        λ h. crowded_is (reserve_says.register e tx n h.0 h.1) h.2,
      );
    }
