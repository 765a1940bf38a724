use Rattle.std.proofs.Common.{ap, sym, ◌∙◌, nat_eq}
use Rattle.job_script.proofs.MemberParts.{has_members-as_object, members_len-members_view}
use Rattle.job_script.proofs.members.has_members.Goals as goal

pub returns-in-Some : goal.returns-in-Some
returns-in-Some c =
    let entries = c.in-Some.members.now.entries in
    ap (λ n. nat_eq n c.args.count) (c.len.ensures.len ∙ sym (members_len-members_view entries))
    ∙ sym (has_members-as_object c.args.count _ _ (sym c.in-Some.ensures))
