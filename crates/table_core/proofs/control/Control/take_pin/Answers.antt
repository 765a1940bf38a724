use Rattle.table_core.proofs.PinLemmas.{pinned_taken}
use Rattle.table_core.proofs.control.Control.take_pin.Goals as goal

pub returns-in-Pinned : goal.returns-in-Pinned
returns-in-Pinned c =
    let room = rw c.in-Pinned.is at c.requires in
    rw c.in-Pinned.is (λ A H job at bases_only is answers. pinned_taken A H c.args.self.now job at bases_only c.in-Pinned.view _ _ is room.1 c.swap.ensures.value)
