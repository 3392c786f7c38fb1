-- What send, done and register leave to the ring: each rule as far as the push of its control message.
use Prim.Native.Nat.{ℕ, ◌+◌, ◌*◌, ◌%◌, ◌≤◌}
use mathlib.Core.Bool.{true, false, not}
use mathlib.Core.Path.{◌≡◌, refl, sym}
use mathlib.Core.List.{List, [], ◌∷◌, ◌++◌}
use native.Mathlib.Omega.{arith}
use lib.Dec.{leb, eqb}
use lib.ListN.{length}
use borrow.Author.Tests.{leb-true, eqb-true}
use Rattle.wire.specs.Bytes.{little_endian, straight, writes, Within}
use Rattle.wire.proofs.Choices.{both}
use Rattle.wire.proofs.Positions.{within-straight}
use Rattle.icmsg.specs.Ring.{data_at, is_sound}
use Rattle.icmsg.specs.Laws.{Sound}
use Rattle.icmsg.specs.Reading.{is_one_of}
use Rattle.icmsg.specs.Unread.{Small, Beside}
use Rattle.icmsg.specs.declared.Ring.{Ring}
use Rattle.icmsg.proofs.Checks.{in_rule_says, sound_test}
use Rattle.blocks.specs.Search.{Search, nowhere, found_at}
use Rattle.blocks.specs.Tables.{entry, starts, starts_data, free_run}
use Rattle.blocks.specs.declared.Use.TheVariants.{Reserved}
use Rattle.blocks.proofs.Tables.{every}
use Rattle.endpoints.specs.Endpoints.{at, is_unused, bound_at, registered, holds, endpoint_at, binding_at, some_endpoint, good_name}
use Rattle.icbmsg.specs.Outcome.{Outcome, refused}
use Rattle.icbmsg.specs.Ends.{block_at, sound_end, is_open, whole, changed}
use Rattle.icbmsg.specs.Rings.{transmit_ring}
use Rattle.icbmsg.specs.Messages.{need, send_of, done_of}
use Rattle.icbmsg.specs.Registering.{followed, initiates, register_of}
use Rattle.icbmsg.specs.Pushing.{contents}
use Rattle.icbmsg.specs.End.{End}
use Rattle.icbmsg.proofs.Claims.{Claim, past, past-found, past-picked}
use Rattle.icbmsg.proofs.AllOrNothing.{not_both}

-- ---- an open end whose transmit region is lent whole

pub record RingLies (e : End) (n : ℕ) : Type 0 where
  pub sound : Sound n (transmit_ring e) e.write
  pub before-blocks : data_at (transmit_ring e) + e.tx.data_length ≤ e.tx.blocks_offset
  pub small : Small (transmit_ring e)

pub ring_lies : (e : End) (n : ℕ) → whole e e.tx n ≡ true → RingLies e n
unfolding is_open
ring_lies e n w =
    let q = both (is_open e) (eqb n e.tx.length) w in
    let z = every (sound_end e) q.0 in
    let i = in_rule_says e.tx.data_length e.write z.1.1.1.0 in
    record {
      sound = record { header = leb-true 4 e.alignment z.0; inside = omega (arith, leb-true, eqb-true); data_fours = eqb-true (e.tx.data_length % 4) 0 z.1.1.1.1.1.1.0; below = i.0; fours = i.1 };
      before-blocks = omega (arith, leb-true);
      small = omega (arith, leb-true);
    }

pub ring_sound : (e : End) (n : ℕ) → whole e e.tx n ≡ true → is_sound n (transmit_ring e) e.write ≡ true
ring_sound e n w = sound_test n (transmit_ring e) e.write (ring_lies e n w).sound

-- ---- the claim

-- Its number is none of the ring's. With a control message it accepts, and the transmit region is lent whole; without one nothing is written to
-- that. What is written leaves the ring alone, and the own index stays.
pub record BeforeRing (e : End) (n : ℕ) (o : Outcome) : Type 0 where
  pub number : is_one_of o.number (7 ∷ 10 ∷ []) ≡ false
  pub accepts : (c : List ℕ) → contents o.given ≡ c ∷ [] → o.number ≡ 0
  pub lent : (c : List ℕ) → contents o.given ≡ c ∷ [] → whole e e.tx n ≡ true
  pub quiet : contents o.given ≡ [] → o.tx ≡ []
  pub beside : Beside (transmit_ring e) o.tx
  pub index : o.next.write ≡ e.write

no : (e : End) (n m : ℕ) → is_one_of m (7 ∷ 10 ∷ []) ≡ false → BeforeRing e n (refused e m)
no e n m h = record { number = h; accepts = λ c q. absurd (not_both q); lent = λ c q. absurd (not_both q); quiet = λ _. refl; beside = tt; index = refl }

-- bytes written from p on, behind the ring
within-beside : (g : Ring) (b n : ℕ) (ws : List (ℕ × ℕ)) → data_at g + g.data_length ≤ b → Within b n ws → Beside g ws
within-beside g b n [] h k = tt
within-beside g b n (w ∷ ws) h k = (λ _. omega (arith, h, k.0), within-beside g b n ws h k.2)

beside-straight : (g : Ring) (p : ℕ) (bs : List ℕ) → data_at g + g.data_length ≤ p → Beside g (writes (straight p) bs)
beside-straight g p bs h = within-beside g p (p + length bs) (writes (straight p) bs) h (within-straight p (p + length bs) p bs (omega arith) (omega arith))

-- ---- each rule

pub send-before : (e : End) (n s a k : ℕ) → Claim (BeforeRing e n) (send_of e n s a k)
unfolding send_of changed
send-before e n s a k =
    past e (whole e e.tx n) 6 (no e n 6 refl) λ w.
    past e (starts Reserved e.tx.block_count e.sent s) 25 (no e n 25 refl) λ _.
    past e (some_endpoint (bound_at a) e.endpoints) 15 (no e n 15 refl) λ _.
    past e (leb (k + 4) ((entry e.sent s).count * e.tx.block_size)) 23 (no e n 23 refl) λ _.
    record {
      holds = record {
        number = refl;
        accepts = λ _ _. refl;
        lent = λ _ _. w;
        quiet = λ q. absurd (not_both (sym q));
        beside = beside-straight (transmit_ring e) (block_at e.tx s) (little_endian 4 k) (omega (arith, (ring_lies e n w).before-blocks));
        index = refl;
      };
    }

pub done-before : (e : End) (n s : ℕ) → Claim (BeforeRing e n) (done_of e n s)
unfolding done_of changed
done-before e n s =
    past e (whole e e.tx n) 6 (no e n 6 refl) λ w.
    past e (starts_data e.rx.block_count e.rx.block_size e.held s) 25 (no e n 25 refl) λ _.
    record { holds = record { number = refl; accepts = λ _ _. refl; lent = λ _ _. w; quiet = λ _. refl; beside = tt; index = refl } }

initiates-before : (e : End) (l : ℕ) (n : List ℕ) (i : ℕ) → whole e e.tx l ≡ true → Claim (BeforeRing e l) (initiates e n i)
unfolding initiates changed
initiates-before e l n i w =
    past e (leb (need e (length n + 1)) e.tx.block_count) 23 (no e l 23 refl) λ _.
    past-found e (free_run e.tx.block_count e.sent (need e (length n + 1))) 24 (no e l 24 refl) λ s _.
    record {
      holds = record {
        number = refl;
        accepts = λ _ _. refl;
        lent = λ _ _. w;
        quiet = λ q. absurd (not_both (sym q));
        beside = beside-straight (transmit_ring e) (block_at e.tx s) (little_endian 4 (length n + 1) ++ n ++ (0 ∷ [])) (omega (arith, (ring_lies e l w).before-blocks));
        index = refl;
      };
    }

followed-before : (e : End) (l : ℕ) (n : List ℕ) (i : ℕ) (q : Search) → whole e e.tx l ≡ true → Claim (BeforeRing e l) (followed e n i q)
unfolding changed
followed-before e l n i nowhere w = record { holds = record { number = refl; accepts = λ _ _. refl; lent = λ _ _. w; quiet = λ _. refl; beside = tt; index = refl } }
followed-before e l n i (found_at j) w = record { holds = record { number = refl; accepts = λ _ _. refl; lent = λ _ _. w; quiet = λ _. refl; beside = tt; index = refl } }

pub register-before : (e : End) (l : ℕ) (n : List ℕ) → Claim (BeforeRing e l) (register_of e l n)
unfolding register_of
register-before e l n =
    past e (whole e e.tx l) 6 (no e l 6 refl) λ w.
    past e (good_name 31 n) 20 (no e l 20 refl) λ _.
    past e (not (some_endpoint (registered n) e.endpoints)) 21 (no e l 21 refl) λ _.
    past-found e (endpoint_at (at is_unused) e.endpoints) 22 (no e l 22 refl) λ i _.
    past-picked e.initiator (initiates-before e l n i w) (followed-before e l n i (binding_at (holds e.rx.block_count n) e.bindings) w)
