-- A send: each way out of its decision, by the facts that the code has there.
use Prim.Native.Nat.{ℕ, ◌+◌, ◌*◌, ◌≤◌, ◌<◌}
use mathlib.Core.Bool.{Bool, true, false, ◌&&◌}
use mathlib.Core.Path.{◌≡◌}
use mathlib.Core.List.{List}
use lib.Dec.{eqb}
use borrow.Author.Tests.{le-leb, lt-leb}
use Rattle.std.specs.Prelude.{Ok}
use Rattle.refusal.specs.Numbers.{number_of}
use Rattle.refusal.specs.declared.Refusal.{Refusal}
use Rattle.blocks.specs.Tables.{entry, starts, blocks_for}
use Rattle.blocks.specs.declared.Use.TheVariants.{Reserved}
use Rattle.blocks.specs.declared.Entry.{Entry}
use Rattle.blocks.proofs.LeastBlocks.{blocks-one, blocks_least}
use Rattle.endpoints.specs.Endpoints.{bound_at, some_endpoint}
use Rattle.endpoints.specs.declared.Endpoint.{Endpoint}
use Rattle.endpoints.specs.declared.Binding.{Binding}
use Rattle.tables.specs.Compact.{table_of}
use Rattle.icbmsg.specs.Outcome.{Outcome, refused, check}
use Rattle.icbmsg.specs.Ends.{open_numbers, is_open}
use Rattle.icbmsg.specs.Messages.{send_of}
use Rattle.icbmsg.specs.End.{End}
use Rattle.icbmsg.specs.declared.Numbers.{Numbers}
use Rattle.checks.specs.Parts.{joined}
use Rattle.checks.specs.Decisions.{SendAs}
use Rattle.checks.proofs.OpenSays.{is_whole}

module _ (n : Numbers) (t : List ℕ) (ps : List Endpoint) (l s a k : ℕ) (w : Bool) (q : w ≡ (open_numbers n.alignment n.tx n.rx n.write n.read && eqb l n.tx.length)) (bs : List Binding) where
  -- 6, 25
  pub send-refused : (x : Refusal) → ((e : End) (o : Outcome) → check w 6 e (check (starts Reserved n.tx.block_count (table_of t 0) s) 25 e o) ≡ refused e (number_of x)) →
      send_of (joined n t ps bs) l s a k ≡ refused (joined n t ps bs) (number_of x)
  unfolding send_of is_open
  send-refused x h = rw (← q) (h (joined n t ps bs) _)

  module _ (h : w ≡ true) (p : starts Reserved n.tx.block_count (table_of t 0) s ≡ true) where
    pub send_15 : some_endpoint (bound_at a) ps ≡ false → send_of (joined n t ps bs) l s a k ≡ refused (joined n t ps bs) 15
    unfolding send_of is_open
    send_15 r = rw (← q, h, p, r)

    module _ (r : some_endpoint (bound_at a) ps ≡ true) (x : Entry) (y : x ≡ entry (table_of t 0) s) where
      pub send_23 : x.count * n.tx.block_size < k + 4 → send_of (joined n t ps bs) l s a k ≡ refused (joined n t ps bs) 23
      unfolding send_of is_open
      send_23 i = rw (← q, h, p, r, ← y, lt-leb (k + 4) (x.count * n.tx.block_size) i)

      pub send-fits : (b m : ℕ) → 1 ≤ n.tx.block_size → b ≡ a → m ≡ blocks_for n.tx.block_size k → k + 4 ≤ x.count * n.tx.block_size → SendAs (Ok (record { address = b; held = x.count; count = m })) (joined n t ps bs) l s a k
      unfolding send_of is_open
      send-fits b m z c d i =
          (rw (← q, h, p, r, ← y, le-leb (k + 4) (x.count * n.tx.block_size) i, ← d), c, is_whole (joined n t ps bs) n.tx l w q h, p, rw y, rw d (blocks-one n.tx.block_size k z), rw d (blocks_least n.tx.block_size k x.count i z), i)
