use Rattle.tables.proofs.Entries.{freed-changed}
use Rattle.tables.proofs.free_run.Goals as goal

pub returns : goal.returns
returns c = freed-changed _ _ _ _ _ c.requires c.told-t c.mark.ensures
