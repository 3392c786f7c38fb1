use mathlib.Core.Bool.{◌&&◌}
use mathlib.Core.Path.{refl, ap₂, ◌∙◌}
use Rattle.region.specs.Layout.{is_block_count, are_bounds}
use Rattle.region.proofs.Checks.{Checked, refused_1, refused_2, refused_3, passed_3, passed-in_rule}
use mathlib.Core.Bool.{not}
use mathlib.Core.Path.{ap}
use Rattle.region.proofs.layout.Goals as goal
use Rattle.region.proofs.layout.Goals.{After-are_bounds, After-is_alignment, After-is_block_count-2}

checked₁ : (c : After-is_alignment) → let s = c.args in
    Checked s.begin s.end s.local s.remote s.alignment c.is_alignment.result (is_block_count s.local && is_block_count s.remote) (are_bounds s.begin s.end)
checked₁ c = record { aligned = c.is_alignment.ensures; counted = refl; bounded = refl }

checked₂ : (c : After-is_block_count-2) → let s = c.args in
    Checked s.begin s.end s.local s.remote s.alignment c.is_alignment.result (c.is_block_count.result && c.is_block_count-2.result) (are_bounds s.begin s.end)
checked₂ c =
    record {
      aligned = c.is_alignment.ensures;
      counted = ap₂ ◌&&◌ c.is_block_count.ensures c.is_block_count-2.ensures;
      bounded = refl;
    }

checked₃ : (c : After-are_bounds) → let s = c.args in
    Checked s.begin s.end s.local s.remote s.alignment c.is_alignment.result (c.is_block_count.result && c.is_block_count-2.result) c.are_bounds.result
checked₃ c =
    let h = checked₂ c.before.before in
    record { aligned = h.aligned; counted = h.counted; bounded = c.are_bounds.ensures }

pub returns-then-not-is_alignment : goal.returns-then-not-is_alignment
returns-then-not-is_alignment c = refused_1 (checked₁ (goal.at.returns-then-not-is_alignment c).After-is_alignment) (ap not c.if-not-is_alignment.true)

pub returns-then-not-is_block_count : goal.returns-then-not-is_block_count
returns-then-not-is_block_count c = refused_2 (checked₂ (goal.at.returns-then-not-is_block_count c).After-is_block_count-2) (ap not c.if-not-is_alignment.false) (ap not c.if-not-is_block_count.true)

pub returns-then-not-are_bounds : goal.returns-then-not-are_bounds
returns-then-not-are_bounds c =
    refused_3 (checked₃ (goal.at.returns-then-not-are_bounds c).After-are_bounds) (ap not c.if-not-is_alignment.false) (ap not c.if-not-is_block_count.false) (ap not c.if-not-are_bounds.true)

pub fitted-requires : goal.fitted-requires
fitted-requires c =
    passed-in_rule (checked₃ (goal.at.fitted-requires c).After-are_bounds) (ap not c.if-not-is_alignment.false) (ap not c.if-not-is_block_count.false) (ap not c.if-not-are_bounds.false)

pub returns : goal.returns
returns c =
    c.fitted.ensures ∙ passed_3 (checked₃ (goal.at.returns c).After-are_bounds) (ap not c.if-not-is_alignment.false) (ap not c.if-not-is_block_count.false) (ap not c.if-not-are_bounds.false)
