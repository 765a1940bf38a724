use Rattle.std.proofs.Common.{arith}
use Rattle.base_writer.proofs.PartLemmas.{none_more, none_all}
use Rattle.base_writer.proofs.groups.GroupPages.new.Goals as goal

pub loop-page-preserved : goal.loop-page-preserved
loop-page-preserved c = none_more c.loop-page._page c.loop-page.pages.items c.push.new.self.items c.new.result c.loop-page.invariant c.new.ensures c.in_ok-push.ensures.items

pub returns : goal.returns
returns c = none_all c.loop-page._page c.args.columns.now c.loop-page.pages.items (omega arith) c.loop-page.invariant
