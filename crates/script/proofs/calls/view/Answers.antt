use mathlib.Core.Path.{◌∙◌}
use lib.ListN.{length}
use Rattle.icbmsg.specs.Messages.{view_of}
use Rattle.link.specs.Answers.{end_of}
use Rattle.link.proofs.MessageCalls.{view-inside}
use Rattle.script.proofs.Places.{part-size, part-reply}
use Rattle.script.proofs.calls.view.Goals as goal

pub placed-requires : goal.placed-requires
placed-requires c =
    let e = c.args.end.now in
    part-size c.view_place-place.result (end_of e) (view_of (end_of e) (length c.args.rx.now) c.args.start) (c.view_place-place.ensures e.endpoints e.bindings) c.args.rx.now _ (view-inside (end_of e) (length c.args.rx.now) c.args.start) (c.view-size.ensures.bytes e.endpoints e.bindings)

pub returns : goal.returns
returns c =
    let e = c.args.end.now in
    c.placed.ensures ∙ part-reply c.view_place-place.result (end_of e) (view_of (end_of e) (length c.args.rx.now) c.args.start) (c.view_place-place.ensures e.endpoints e.bindings) c.args.rx.now _ (view-inside (end_of e) (length c.args.rx.now) c.args.start) (c.view-size.ensures.bytes e.endpoints e.bindings)
