use mathlib.Core.List.{List, []}
use mathlib.Core.Path.{◌≡◌, refl}
use native.Mathlib.Omega.{arith}
use lib.ListN.{length}
use Rattle.endpoints.specs.declared.Endpoint.{Endpoint}
use Rattle.endpoints.specs.declared.Binding.{Binding}
use Rattle.icbmsg.specs.Messages.{view_of}
use Rattle.checks.specs.Parts.{joined}
use Rattle.link.proofs.MessageCalls.{view-inside, this_part, part-begins, placed_there}
use Rattle.link.proofs.End.view.Goals as goal
use Rattle.link.proofs.End.view.Goals.{After-unwrap_or-place}

there : (c : After-unwrap_or-place) (ps : List Endpoint) (bs : List Binding) → let e = c.args.self.now in let o = view_of (joined e.numbers e.tables ps bs) (length c.args.rx.now) c.args.start in
    (c.unwrap_or-place.result.begin ≡ o.begin) × (c.unwrap_or-place.result.size ≡ o.size)
there c ps bs = let e = c.args.self.now in placed_there (joined e.numbers e.tables ps bs) _ _ _ c.unwrap_or-place.ensures (c.view_place.ensures ps bs)

pub slice_bounds-result-end : goal.slice_bounds-result-end
slice_bounds-result-end c =
    let e = c.args.self.now in
    let t = there (goal.at.slice_bounds-result-end c).After-unwrap_or-place [] [] in
    omega (arith, t.0, t.1, view-inside (joined e.numbers e.tables [] []) (length c.args.rx.now) c.args.start)

pub returns : goal.returns
returns c =
    let t = there (goal.at.returns c).After-unwrap_or-place in
    record {
      bytes = λ ps bs. let e = c.args.self.now in this_part (view_of (joined e.numbers e.tables ps bs) (length c.args.rx.now) c.args.start) _ _ (t ps bs).0 (t ps bs).1 c.args.rx.now;
      place = (refl, λ ps bs. let e = c.args.self.now in part-begins (view_of (joined e.numbers e.tables ps bs) (length c.args.rx.now) c.args.start) _ _ (t ps bs).0 (t ps bs).1 _);
    }
