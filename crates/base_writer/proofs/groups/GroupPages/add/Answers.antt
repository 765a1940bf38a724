use Rattle.base_writer.proofs.PartLemmas.{row_added_in}
use Rattle.base_writer.proofs.groups.GroupPages.add.Goals as goal

pub returns : goal.returns
returns c rows is =
    row_added_in c.args.columns.now c.as_slice.result.now c.args.cells.now c.as_slice-2.result.now rows c.args.self.now c.add_cells.new.pages.items c.self.inside.pages.items c.as_slice.ensures c.as_slice-2.ensures c.self.view_is c.requires c.in_ok-add_cells.ensures is
