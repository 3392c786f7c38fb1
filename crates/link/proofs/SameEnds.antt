-- The end with bytes and the end with entries: each case of a step, and the induction over the calls.
use Prim.Native.Nat.{ℕ}
use mathlib.Core.List.{List, [], ◌∷◌}
use Rattle.std.specs.Prelude.{Result, Ok, Err}
use Rattle.refusal.specs.declared.Refusal.{Refusal}
use Rattle.link.specs.declared.Place.{Place}
use mathlib.Core.Path.{◌≡◌, refl, ap, ◌∙◌}
use lib.ListN.{length}
use Rattle.wire.specs.Bytes.{wrote}
use Rattle.endpoints.specs.declared.Endpoint.{Endpoint}
use Rattle.endpoints.specs.declared.Binding.{Binding}
use Rattle.icbmsg.specs.Outcome.{Outcome, without_writes}
use Rattle.wire.specs.Reads.{answer}
use Rattle.icbmsg.specs.Rings.{start_of, push_rule, pull_rule}
use Rattle.icbmsg.specs.Messages.{send_rule, done_rule}
use Rattle.icbmsg.specs.Registering.{register_rule}
use Rattle.icbmsg.specs.Calls.{Call, lent, read_from, rule, step, run}
use Rattle.icbmsg.specs.declared.Numbers.{Numbers}
use Rattle.checks.specs.Parts.{joined}
use Rattle.link.specs.Answers.{answered, writing, ring_answered, place_of}
use Rattle.link.specs.SameEnds.{Bytes, with, stands_for, Seen, told_at, Step, starts, pushes, pulls, reserves, rooms, sends, drops, arrives, views, ends, registers, asks_room, asks_view, Steps, SameAt, AllSame, SameEnds}
use Rattle.link.specs.SameEnds as ends_of

-- where no byte is lent, none is written
none_lent : (ws : List (ℕ × ℕ)) → [] ≡ wrote [] ws
unfolding wrote
none_lent [] = refl
none_lent (w ∷ ws) = none_lent ws

-- a call that writes nothing: the rule's outcome o is what the code told
told_same : (c : Call) (x : Seen) (z o : Outcome) → z ≡ o → SameAt c x z → SameAt c x o
told_same c x z o h s = rw (← h) s

-- a place, which writes nothing and leaves the end
place_same : (c : Call) (p : Result Place Refusal) (b : Bytes) → SameAt c (told_at p (lent c) b) (place_of p (stands_for b))
unfolding wrote
place_same c (Ok y) b = record { number = refl; given = refl; begin = refl; size = refl; tx = refl; rx = refl; buffer = refl; next = refl }
place_same c (Err y) b = record { number = refl; given = refl; begin = refl; size = refl; tx = refl; rx = refl; buffer = refl; next = refl }

-- a call whose writes its contract gives for each slice
written_same : (c : Call) (x : Seen) (z o : Outcome) → z ≡ without_writes o → x.number ≡ z.number → x.given ≡ z.given → x.begin ≡ z.begin → x.size ≡ z.size → stands_for x.next ≡ z.next →
    x.bytes.tx ≡ wrote (lent c).tx o.tx → x.bytes.rx ≡ wrote (lent c).rx o.rx → x.bytes.buffer ≡ wrote (lent c).buffer o.buffer → SameAt c x o
written_same c x z o h p q r s u v w y =
    record {
      number = p ∙ ap (λ (o : Outcome). o.number) h;
      given = q ∙ ap (λ (o : Outcome). o.given) h;
      begin = r ∙ ap (λ (o : Outcome). o.begin) h;
      size = s ∙ ap (λ (o : Outcome). o.size) h;
      tx = v;
      rx = w;
      buffer = y;
      next = u ∙ ap (λ (o : Outcome). o.next) h;
    }

module _ (n : Numbers) (t : List ℕ) (ps : List Endpoint) (bs : List Binding) where
  pub step_same : (c : Call) (x : Seen) → Step n t ps bs c x → SameAt c x (step (joined n t ps bs) c)
  unfolding step rule read_from lent wrote
  step_same c x (starts r n' tx tx' h w) =
      let o : Outcome = start_of (joined n t ps bs) (length tx) in
      written_same c x (ring_answered r (joined n' t ps bs)) o (h t ps bs) refl refl refl refl refl (w t ps bs) (none_lent o.rx) (none_lent o.buffer)
  step_same c x (pushes r n' tx tx' m h w) =
      let o : Outcome = answer (push_rule (joined n t ps bs) (length tx) m) tx in
      written_same c x (ring_answered r (joined n' t ps bs)) o (h t ps bs) refl refl refl refl refl (w t ps bs) (none_lent o.rx) (none_lent o.buffer)
  step_same c x (pulls r n' rx rx' b b' h w v) =
      let o : Outcome = answer (pull_rule (joined n t ps bs) (length rx) (length b)) rx in
      written_same c x (ring_answered r (joined n' t ps bs)) o (h t ps bs) refl refl refl refl refl (none_lent o.tx) (w t ps bs) (v t ps bs)
  step_same c x (reserves r t' k h) = told_same c x (answered r (joined n t' ps bs)) _ (h ps bs) (record { number = refl; given = refl; begin = refl; size = refl; tx = refl; rx = refl; buffer = refl; next = refl })
  step_same c x (rooms p tx s h) = told_same c x (place_of p (joined n t ps bs)) _ (h ps bs) (place_same c p (with n t ps bs))
  step_same c x (sends r i t' tx tx' s a k h w) =
      let o : Outcome = answer (send_rule (joined n t ps bs) (length tx) s a k) tx in
      written_same c x (answered r (joined (writing n i) t' ps bs)) o (h bs) refl refl refl refl refl (w bs) (none_lent o.rx) (none_lent o.buffer)
  step_same c x (drops r t' s h) = told_same c x (answered r (joined n t' ps bs)) _ (h ps bs) (record { number = refl; given = refl; begin = refl; size = refl; tx = refl; rx = refl; buffer = refl; next = refl })
  step_same c x (arrives r b rx m h) = told_same c x (answered r (stands_for b)) _ h (record { number = refl; given = refl; begin = refl; size = refl; tx = refl; rx = refl; buffer = refl; next = refl })
  step_same c x (views p rx s h) = told_same c x (place_of p (joined n t ps bs)) _ (h ps bs) (place_same c p (with n t ps bs))
  step_same c x (ends r i t' tx tx' s h w) =
      let o : Outcome = answer (done_rule (joined n t ps bs) (length tx) s) tx in
      written_same c x (answered r (joined (writing n i) t' ps bs)) o (h ps bs) refl refl refl refl refl (w ps bs) (none_lent o.rx) (none_lent o.buffer)
  step_same c x (registers r b tx tx' m h w) =
      let o : Outcome = answer (register_rule (joined n t ps bs) (length tx) m) tx in
      written_same c x (answered r (stands_for b)) o h refl refl refl refl refl w (none_lent o.rx) (none_lent o.buffer)
  step_same c x (asks_room r s l h) = told_same c x (answered r (joined n t ps bs)) _ (h ps bs) (record { number = refl; given = refl; begin = refl; size = refl; tx = refl; rx = refl; buffer = refl; next = refl })
  step_same c x (asks_view r s l h) = told_same c x (answered r (joined n t ps bs)) _ (h ps bs) (record { number = refl; given = refl; begin = refl; size = refl; tx = refl; rx = refl; buffer = refl; next = refl })

all_same : (b : Bytes) (cs : List Call) (xs : List Seen) → Steps b cs xs → AllSame cs xs (run (stands_for b) cs)
unfolding run
all_same b cs xs ends_of.Steps.none = AllSame.none
all_same b cs xs (ends_of.Steps.one {c = c} {cs = ds} {x = x} {xs = ys} s r) =
    let q = step_same b.numbers b.tables b.endpoints b.bindings c x s in
    AllSame.one {c = c} {cs = ds} {x = x} {xs = ys} {os = run (step (stands_for b) c).next ds} q (rw (← q.next) (all_same x.next ds ys r))

pub same_ends : SameEnds
same_ends o r h cs xs s = rw (← (ap (λ (z : Outcome). z.next) h)) (all_same _ cs xs s)
