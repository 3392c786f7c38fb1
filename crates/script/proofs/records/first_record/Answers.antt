use mathlib.Core.Path.{◌≡◌, sym, ap, ◌∙◌}
use Rattle.std.specs.Prelude.{None}
use Rattle.std.proofs.Common.{rules}
use Rattle.script.specs.Records.{admits}
use Rattle.script.specs.declared.kinds.Body.{Body}
use Rattle.script.proofs.FirstRecord.{no_header, cut_off, no_kind, a_record, no_record}
use Rattle.script.proofs.records.first_record.Goals as goal

pub returns-then-rest-lt-HEADER : goal.returns-then-rest-lt-HEADER
returns-then-rest-lt-HEADER c = no_header _ c.if-rest-lt-HEADER.true

pub returns-then-rest-length : goal.returns-then-rest-length
returns-then-rest-length c = cut_off _ c.if-rest-lt-HEADER.false _ c.read_u16-length.ensures.0 c.if-rest-length.true

pub returns-in_err-kind : goal.returns-in_err-kind
returns-in_err-kind c =
    let r : c.from_residual.result ≡ None = search rules in
    rw r (no_kind _ c.if-rest-lt-HEADER.false _ c.read_u16-length.ensures.0 c.if-rest-length.false (sym c.of.ensures ∙ c.in_err-kind.was))

pub returns-then-admits : goal.returns-then-admits
returns-then-admits c =
    a_record _ c.if-rest-lt-HEADER.false _ c.read_u16-length.ensures.0 c.if-rest-length.false _ (sym c.of.ensures ∙ c.in_ok-kind.was)
    (sym (c.admits.ensures ∙ ap (λ (b : Body). admits b c.read_u16-length.result) c.body.ensures) ∙ c.if-admits.true)

pub returns-else-admits : goal.returns-else-admits
returns-else-admits c =
    no_record _ c.if-rest-lt-HEADER.false _ c.read_u16-length.ensures.0 c.if-rest-length.false _ (sym c.of.ensures ∙ c.in_ok-kind.was)
    (sym (c.admits.ensures ∙ ap (λ (b : Body). admits b c.read_u16-length.result) c.body.ensures) ∙ c.if-admits.false)
