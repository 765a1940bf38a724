use Rattle.std.proofs.Common.{Option, subst}
use Rattle.commit_meta.specs.Metadata.{content_of, read_as}
use Rattle.commit_meta.specs.Texts.{Answers}
use Rattle.commit_meta.specs.declared.content.Content.{Content}
use Rattle.commit_meta.proofs.Readable.{writable}
use Rattle.commit_meta.proofs.reading.meta_parse.Goals as goal

pub returns-clause-writable : goal.returns-clause-writable
returns-clause-writable c =
    let told = subst (λ (k : Option Content). Answers (λ meta. meta) c.read_as.result (read_as c.args.table.now k c.args.bytes.now)) c.content_of.ensures c.read_as.ensures in
    writable c.args.table.now (content_of c.args.action c.args.state) c.args.bytes.now c.read_as.result told
