-- Runs and rooms: each way out of a decision, by the facts that the code has there; and what a run's part of the lent bytes needs.
use Prim.Native.Nat.{ℕ, ◌+◌, ◌*◌, ◌≤◌, ◌<◌}
use mathlib.Core.Bool.{Bool, true, false}
use mathlib.Core.Path.{◌≡◌}
use mathlib.Core.List.{List}
use native.Mathlib.Omega.{arith}
use native.Mathlib.Nat.{mul-le-mul_right}
use lib.Dec.{leb}
use borrow.Author.Tests.{le-leb, lt-leb}
use Rattle.std.specs.Prelude.{Result, Ok, Err}
use Rattle.refusal.specs.Numbers.{number_of}
use Rattle.refusal.specs.declared.Refusal.{Refusal}
use Rattle.blocks.specs.Search.{nowhere, found_at}
use Rattle.blocks.specs.Tables.{entry, starts, starts_data, blocks_for, free_run}
use Rattle.blocks.specs.declared.Use.{Use}
use Rattle.blocks.specs.declared.Use.TheVariants.{Reserved}
use Rattle.blocks.specs.declared.Entry.{Entry}
use Rattle.blocks.proofs.Tables.{Run as RunIs, run_of, data_run}
use Rattle.endpoints.specs.declared.Endpoint.{Endpoint}
use Rattle.endpoints.specs.declared.Binding.{Binding}
use Rattle.tables.specs.Compact.{table_of}
use Rattle.icbmsg.specs.Outcome.{Outcome, refused, check}
use Rattle.icbmsg.specs.Ends.{open_numbers, is_open, whole, found_or}
use Rattle.icbmsg.specs.Messages.{reserve_of, reservation}
use Rattle.icbmsg.specs.declared.Region.{Region}
use Rattle.icbmsg.specs.declared.Numbers.{Numbers}
use Rattle.icbmsg.specs.End.{End}
use Rattle.checks.specs.Parts.{joined}
use Rattle.checks.specs.Decisions.{RunAs, FitAs, ReservesAs}
use Rattle.checks.specs.declared.Blocks.{Blocks}
use Rattle.checks.proofs.OpenSays.{Sound, open_says, run_inside, whole_says}

-- ---- a run behind a check

module _ (n : ℕ) (p b : Bool) where
  pub run-behind : p ≡ false → (e : End) (o : Outcome) → check p n e (check b 25 e o) ≡ refused e n
  run-behind h e o = rw h

  pub run_none : p ≡ true → b ≡ false → (e : End) (o : Outcome) → check p n e (check b 25 e o) ≡ refused e 25
  run_none h k e o = rw (h, k)

-- what the decision says, by its case
module _ (r : Result Entry Refusal) (n : ℕ) (p b : Bool) (y : Entry) (h : RunAs r n p b y) where
  pub run-refused : (x : Refusal) → r ≡ Err x → (e : End) (o : Outcome) → check p n e (check b 25 e o) ≡ refused e (number_of x)
  run-refused x q = rw q at h

  pub run-live : (z : Entry) → r ≡ Ok z → (p ≡ true) × (b ≡ true) × (z ≡ y)
  run-live z q = rw q at h

-- ---- room for a message

module _ (g : Region) (t : List Entry) (k m : ℕ) (q : m ≡ blocks_for g.block_size k) (e : End) (f : ℕ → Outcome) where
  pub fit_23 : g.block_count < m → check (leb (blocks_for g.block_size k) g.block_count) 23 e (found_or 24 e f (free_run g.block_count t (blocks_for g.block_size k))) ≡ refused e 23
  fit_23 l = rw (← q, lt-leb m g.block_count l)

  pub fit_24 : m ≤ g.block_count → free_run g.block_count t m ≡ nowhere →
      check (leb (blocks_for g.block_size k) g.block_count) 23 e (found_or 24 e f (free_run g.block_count t (blocks_for g.block_size k))) ≡ refused e 24
  fit_24 l h = rw (← q, le-leb m g.block_count l, h)

  pub fit_at : (s : ℕ) → m ≤ g.block_count → free_run g.block_count t m ≡ found_at s →
      check (leb (blocks_for g.block_size k) g.block_count) 23 e (found_or 24 e f (free_run g.block_count t (blocks_for g.block_size k))) ≡ f s
  fit_at s l h = rw (← q, le-leb m g.block_count l, h)

pub reserve_6 : (n : Numbers) (t : List ℕ) (k : ℕ) (ps : List Endpoint) (bs : List Binding) → open_numbers n.alignment n.tx n.rx n.write n.read ≡ false →
    reserve_of (joined n t ps bs) k ≡ refused (joined n t ps bs) 6
unfolding reserve_of is_open
reserve_6 n t k ps bs h = rw h

module _ (n : Numbers) (t : List ℕ) (k : ℕ) (h : open_numbers n.alignment n.tx n.rx n.write n.read ≡ true) (few : n.tx.block_count ≤ 256) where
  pub reserves : (r : Result Blocks Refusal) → FitAs r n.tx (table_of t 0) k → ReservesAs r n t k
  unfolding reserve_of is_open
  reserves (Err x) f = λ ps bs. rw h (f (joined n t ps bs) (reservation (joined n t ps bs) k))
  reserves (Ok r) f =
      (f.0, f.3, omega (arith, f.4), λ ps bs. rw h (fit_at n.tx (table_of t 0) k r.count f.0 (joined n t ps bs) (reservation (joined n t ps bs) k) r.start f.1 f.2))

-- ---- all that a run's part of the n lent bytes needs

pub record PartIn (g : Region) (s m n : ℕ) : Type 0 where
  pub low : s < 256
  pub few : m ≤ 256
  pub ends : s + m ≤ 256
  pub inside : g.blocks_offset + s * g.block_size + m * g.block_size ≤ n
  pub most : n ≤ 1048576
  pub four : 4 ≤ m * g.block_size
  pub product : s * g.block_size ≤ n
  pub size : g.block_size ≤ n

run-part : (a : ℕ) (g : Region) (u : Use) (t : List Entry) (s n : ℕ) → Sound a g → RunIs g.block_count t s u → n ≡ g.length → PartIn g s (entry t s).count n
run-part a g u t s n o r q =
    let i : g.blocks_offset + s * g.block_size + (entry t s).count * g.block_size ≤ g.length = run_inside a g s (entry t s).count o r.ends in
    let f : 1 * g.block_size ≤ (entry t s).count * g.block_size = mul-le-mul_right g.block_size r.one in
    record {
      low = omega (arith, r.below, o.few);
      few = omega (arith, r.ends, o.few);
      ends = omega (arith, r.ends, o.few);
      inside = omega arith;
      most = omega (arith, o.bytes);
      four = omega (arith, o.size);
      product = omega arith;
      size = omega arith;
    }

pub room-part : (e : End) (n s : ℕ) → whole e e.tx n ≡ true → starts Reserved e.tx.block_count e.sent s ≡ true → PartIn e.tx s (entry e.sent s).count n
room-part e n s h k =
    let w = whole_says e e.tx n h in
    run-part e.alignment e.tx Reserved e.sent s n (open_says e w.is_open).tx (run_of Reserved e.tx.block_count e.sent s k) w.lent

pub view-part : (e : End) (n s : ℕ) → whole e e.rx n ≡ true → starts_data e.rx.block_count e.rx.block_size e.held s ≡ true →
    PartIn e.rx s (entry e.held s).count n × ((entry e.held s).length + 4 ≤ (entry e.held s).count * e.rx.block_size)
view-part e n s h k =
    let w = whole_says e e.rx n h in
    let r = data_run e.rx.block_count e.rx.block_size e.held s k in
    (run-part e.alignment e.rx _ e.held s n (open_says e w.is_open).rx r.0 w.lent, r.1)
