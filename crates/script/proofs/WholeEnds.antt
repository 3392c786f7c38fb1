-- What a contract on parts says of the whole end, and a call's reply and end by the outcome that it had.
use Prim.Native.Nat.{ℕ}
use mathlib.Core.Path.{◌≡◌, ap, ◌∙◌}
use mathlib.Core.List.{List}
use Rattle.std.specs.Prelude.{Result}
use Rattle.refusal.specs.declared.Refusal.{Refusal}
use Rattle.icbmsg.specs.Outcome.{Outcome, without_writes}
use Rattle.icbmsg.specs.End.{End}
use Rattle.link.specs.Answers.{end_of, answered, answer_number, answer_given, ring_answered, packet_number, packet_given, with_numbers, with_tables, with_push}
use Rattle.link.specs.Parts.{OnTables, PushedOn, OnNumbers}
use Rattle.link.specs.declared.Answer.{Answer}
use Rattle.link.specs.declared.PacketError.{PacketError}
use Rattle.link.specs.declared.End.{End as CodeEnd}
use Rattle.script.specs.Rows.{reply, reply_of}
use Rattle.script.specs.Calls.{RanAs}

module _ (f : End → Outcome) (e e' : CodeEnd) where
  pub on_tables : (r : Result Answer Refusal) → OnTables f e.numbers e.tables r e'.tables → e' ≡ with_tables e e'.tables → answered r (end_of e') ≡ f (end_of e)
  on_tables r h o = ap (λ (x : CodeEnd). answered r (end_of x)) o ∙ h e.endpoints e.bindings

  pub pushed_on : (r : Result Answer Refusal) → PushedOn f e.numbers e.tables e.endpoints r e'.numbers.write e'.tables → e' ≡ with_push e e'.numbers.write e'.tables → answered r (end_of e') ≡ f (end_of e)
  pushed_on r h o = ap (λ (x : CodeEnd). answered r (end_of x)) o ∙ h e.bindings

  pub on_numbers : (r : Result ℕ PacketError) → OnNumbers f e.numbers r e'.numbers → e' ≡ with_numbers e e'.numbers → ring_answered r (end_of e') ≡ f (end_of e)
  on_numbers r h o = ap (λ (x : CodeEnd). ring_answered r (end_of x)) o ∙ h e.tables e.endpoints e.bindings

-- the reply r, and the end that is left
module _ (r : List ℕ) (e : CodeEnd) (o : Outcome) where
  pub ran : (a : Result Answer Refusal) → r ≡ reply (answer_number a) (answer_given a) 0 0 → answered a (end_of e) ≡ o → RanAs r e o
  ran a p h = record { reply = p ∙ ap reply_of h; end = ap (λ (o : Outcome). o.next) h }

  -- but for what was written, which a row does not tell
  pub ran_writing : (a : Result Answer Refusal) → r ≡ reply (answer_number a) (answer_given a) 0 0 → answered a (end_of e) ≡ without_writes o → RanAs r e o
  ran_writing a p h = record { reply = p ∙ ap reply_of h; end = ap (λ (o : Outcome). o.next) h }

  pub ring_ran : (a : Result ℕ PacketError) → r ≡ reply (packet_number a) (packet_given a) 0 0 → ring_answered a (end_of e) ≡ without_writes o → RanAs r e o
  ring_ran a p h = record { reply = p ∙ ap reply_of h; end = ap (λ (o : Outcome). o.next) h }
