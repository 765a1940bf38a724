use Rattle.key_index.proofs.FirstTiles.{first-of_slot}
use Rattle.key_index.proofs.buckets.Buckets.range_of.Goals as goal

pub returns : goal.returns
returns c = λ partition.
    rw (← c.self.view_is, c.first_start.ensures, c.first_start-2.ensures)
    (first-of_slot partition c.self.inside.number c.bucket_of-i.result c.args.slot c.self.invariant.0 c.self.invariant.1
    c.bucket_of-i.ensures.number c.bucket_of-i.ensures.from c.bucket_of-i.ensures.to)
