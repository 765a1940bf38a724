use Rattle.store_mem.proofs.FilesLemmas.{copy_given}
use Rattle.store_mem.proofs.files.put.Goals as goal

pub returns-clause-ok : goal.returns-clause-ok
returns-clause-ok c =
    copy_given c.args.files.now.entries c.insert.new.self.entries c.args.name.now c.args.bytes.now
    c.in_ok-name.name c.in_ok-content.content c.in_ok-name.ensures c.in_ok-content.ensures c.in_ok-insert.ensures.updates.0
