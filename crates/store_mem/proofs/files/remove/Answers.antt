use Rattle.store_mem.proofs.FilesLemmas.{one_taken}
use Rattle.store_mem.proofs.files.remove.Goals as goal

pub returns : goal.returns
returns c = one_taken c.args.files.now.entries c.remove.new.self.entries c.args.name.now c.remove.ensures.updates.0
