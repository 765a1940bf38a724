use Rattle.std.proofs.Common.{◌≡◌, ◌∙◌, ◌-◌, length, arith}
use Rattle.base_writer.proofs.PartLemmas.{parts_fit_in, bytes_put, chunks_put_in, size_put, group_put}
use Rattle.base_writer.proofs.groups.GroupPages.put.Goals as goal

pub put_chunks-requires-clause-size : goal.put_chunks-requires-clause-size
put_chunks-requires-clause-size c =
    parts_fit_in c.args.columns.now c.as_slice.result.now c.requires.0 c.args.count c.args.self.now c.deref.result.now c.as_slice.ensures (c.deref.ensures.value ∙ c.self.view_is) c.requires.1 c.requires.2

pub put_chunks-requires-clause-count : goal.put_chunks-requires-clause-count
put_chunks-requires-clause-count c = omega (arith, c.requires.1.counted, c.requires.2.few)

pub returns-clause-bytes : goal.returns-clause-bytes
returns-clause-bytes c rows pages =
    bytes_put c.args.columns.now c.as_slice.result.now rows c.args.count c.args.self.now c.deref.result.now c.args.bytes.now.items c.put_chunks.new.bytes.items c.as_slice.ensures (c.deref.ensures.value ∙ c.self.view_is) c.in_ok-put_chunks.ensures.bytes pages

pub returns-clause-group : goal.returns-clause-group
returns-clause-group c rows pages =
    let same = c.deref.ensures.value ∙ c.self.view_is in
    let bytes = bytes_put c.args.columns.now c.as_slice.result.now rows c.args.count c.args.self.now c.deref.result.now c.args.bytes.now.items c.put_chunks.new.bytes.items c.as_slice.ensures same c.in_ok-put_chunks.ensures.bytes pages in
    let chunks = chunks_put_in (length c.args.bytes.now.items) c.args.columns.now c.as_slice.result.now rows c.args.count c.args.self.now c.deref.result.now c.new-chunks.result.items c.put_chunks.new.chunks.items c.as_slice.ensures same c.new-chunks.ensures.items c.in_ok-put_chunks.ensures.chunks pages in
    let before : c.len-before.result ≡ length c.args.bytes.now.items = omega (arith, c.len-before.ensures) in
    let after : c.len.result ≡ length c.put_chunks.new.bytes.items = omega (arith, c.len.ensures) in
    let size = size_put c.args.columns.now rows c.args.bytes.now.items c.put_chunks.new.bytes.items c.len-before.result c.len.result bytes before after in
    c.in_ok-group.ensures ∙ group_put (length c.args.bytes.now.items) c.args.columns.now rows c.from_vec.result (c.len.result - c.len-before.result) c.args.count (c.from_vec.ensures ∙ chunks) size pages.counted
