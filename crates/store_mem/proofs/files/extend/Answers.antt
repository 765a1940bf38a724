use Rattle.std.proofs.Common.{◌∙◌, sym, ap, refl, IsSome, OnErr, Result, Ok, Err, subst}
use Rattle.std.specs.FinMap.{insert}
use Rattle.std.specs.BTreeMap.{is_at}
use Rattle.std.proofs.lemmas.Map.Steps.{set_value_same}
use Rattle.store_mem.specs.Entries.{files_in}
use Rattle.store_mem.proofs.FilesLemmas.{by_bytes, extended, absent_content}
use Rattle.store_mem.proofs.files.extend.Goals as goal

-- a fact holds at an error
at_error : {T E P : Type 0} (r : Result T E) → P → OnErr r P
at_error (Ok x) p = tt
at_error (Err e) p = p

pub returns-in_ok-extend-in-Some-clause-ok : goal.returns-in_ok-extend-in-Some-clause-ok
returns-in_ok-extend-in-Some-clause-ok c =
    let had = sym c.in-Some.ensures.value in
    let written = (c.get_mut.follows.holds c.extend.new.self).3 (subst IsSome (sym had) refl) in
    extended c.args.files.now.entries (c.get_mut.follows.lender c.extend.new.self).entries c.args.name.now
    c.in-Some.content.now c.args.bytes.now c.extend.new.self had c.in_ok-extend-in-Some.ensures.ok written.0

-- a failure leaves the content, and a content written back changes nothing
pub returns-in_err-extend-in-Some-clause-err : goal.returns-in_err-extend-in-Some-clause-err
returns-in_err-extend-in-Some-clause-err c =
    let es = c.args.files.now.entries in
    let had = sym c.in-Some.ensures.value in
    let kept = ap (λ bytes. (c.get_mut.follows.lender bytes).entries) c.in_err-extend-in-Some.ensures.err in
    let same = (c.get_mut.follows.holds c.in-Some.content.now).0 ∙ set_value_same (is_at (by_bytes c.args.name.now)) es c.in-Some.content.now had in
    at_error c.from_residual.result (ap files_in (kept ∙ same))

pub returns-in_ok-put-in-None-clause-ok : goal.returns-in_ok-put-in-None-clause-ok
returns-in_ok-put-in-None-clause-ok c =
    let es = c.args.files.now.entries in
    c.in_ok-put-in-None.ensures.ok
    ∙ ap (λ files. insert (files_in files.entries) c.args.name.now c.args.bytes.now) c.get_mut.follows.holds-at-none
    ∙ ap (insert (files_in es) c.args.name.now) (sym (absent_content es c.args.name.now c.args.bytes.now (sym c.in-None.ensures.value)))
