use Rattle.std.proofs.Common.{◌≡◌, ◌-◌, ◌+◌, List, [], ◌∷◌, ◌++◌, map, sym, ap, subst, ◌∙◌, arith}
use Rattle.std.proofs.lemmas.Grind.{common_steps}
use Rattle.std.proofs.lemmas.List.{map-append}
use Rattle.std.proofs.lemmas.Result.{err_from_is_err_and}
use Rattle.payload_merge.specs.RowRefs.{write_in}
use Rattle.payload_merge.specs.declared.row.Write.{Write}
use Rattle.payload_merge.specs.declared.row.Write.TheVariants.{Put}
use Rattle.plain_rows.specs.Contents.{rows_at}
use Rattle.plain_rows.specs.Readers.{row_of, with_before}
use Rattle.plain_rows.proofs.ReadParts.{rows_more, rows_stop, rows_end}
use Rattle.block_contents.specs.declared.read_error.ReadError.TheVariants.{Field}
use Rattle.plain_rows.proofs.reading.rows_at.Goals as goal

pub returns-in_err-row : goal.returns-in_err-row
returns-in_err-row c partition =
    let l = c.loop-place in
    let p = err_from_is_err_and c.from_residual-in_err-row.result c.from_residual-in_err-row.ensures.1 in
    rw (p.1, p.2) (rows_stop c.args.commit partition c.args.told (Field c.in_err-row.field-0.0) (map (write_in partition) l.puts.items) c.args.count l.place l.rest.now _ c.loop-place-test.true (c.in_err-row.ensures c.args.commit partition) (l.invariant partition))

pub loop-place-preserved : goal.loop-place-preserved
loop-place-preserved c partition =
    let l = c.loop-place in
    let row = row_of c.args.commit partition c.in_ok-row.row in
    let pushed : c.push.new.self.items ≡ l.puts.items ++ c.put_of.result ∷ [] = grind (arith, common_steps) in
    let put : map (write_in partition) c.push.new.self.items ≡ map (write_in partition) l.puts.items ++ Put row ∷ [] =
    ap (map (write_in partition)) pushed ∙ map-append (write_in partition) l.puts.items (c.put_of.result ∷ [])
    ∙ ap (λ (w : Write). map (write_in partition) l.puts.items ++ w ∷ []) (c.put_of.ensures partition) in
    let more = rows_more c.args.commit partition c.args.told (map (write_in partition) l.puts.items) c.args.count l.place l.rest.now row c.in_ok-row.after.now _ c.loop-place-test.true (c.in_ok-row.ensures c.args.commit partition) (l.invariant partition) in
    subst (λ (before : List Write). with_before before (rows_at c.args.commit partition c.args.told (l.place + 1) (c.args.count - (l.place + 1)) c.in_ok-row.after.now) ≡ with_before [] (rows_at c.args.commit partition c.args.told 0 c.args.count c.args.bytes.now))
    (sym put) more

pub returns : goal.returns
returns c partition =
    let l = c.loop-place in
    rows_end c.args.commit partition c.args.told (map (write_in partition) l.puts.items) c.args.count l.place l.rest.now _ c.loop-place-test.false (l.invariant partition)
