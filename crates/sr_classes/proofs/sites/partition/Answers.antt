-- What the forest stands for are the least classes.
use Rattle.std.proofs.Common.{◌≡◌, ◌<◌, ℕ, fold, map, length, refl, sym, subst, ◌∙◌}
use Rattle.sr_classes.specs.Classes.{groups_of, named_by}
use Rattle.sr_classes.specs.Joins.{Stands, all_joined, group_joined}
use Rattle.sr_classes.proofs.Least.{are-classes}
use Rattle.sr_classes.proofs.sites.partition.Goals as goal

pub returns : goal.returns
returns c =
    let counted : length c.in_ok-parents.parents ≡ length c.args.core.now.operations = c.in_ok-parents.ensures.count ∙ c.len-2.ensures in
    let own : (op : ℕ) → op < length c.in_ok-parents.parents → _ = λ op within. c.in_ok-parents.ensures.own op (subst (λ n. op < n) c.in_ok-parents.ensures.count within) in
    let start : Stands (λ op. op) c.in_ok-parents.parents = record { settled = λ op. refl; same = own; roots = λ op within is. refl } in
    let joined_all : Stands (all_joined (groups_of c.args.core.now)) c.join_sites.new.parents =
    subst (λ count. Stands (fold group_joined (λ op. op) (map (λ site. named_by count site.arms) c.args.core.now.sites)) c.join_sites.new.parents) counted
    (subst (λ sites. Stands (fold group_joined (λ op. op) (map (λ site. named_by (length c.in_ok-parents.parents) site.arms) sites)) c.join_sites.new.parents)
    c.as_slice.ensures (c.in_ok-join_sites.ensures.joined (λ op. op) start)) in
    are-classes (groups_of c.args.core.now) (length c.args.core.now.operations) c.in_ok-of.of
    (c.in_ok-of.ensures.each ∙ c.in_ok-join_sites.ensures.length ∙ counted)
    (λ op within. c.in_ok-of.ensures.firsts (all_joined (groups_of c.args.core.now)) joined_all op
    (subst (λ n. op < n) (sym (c.in_ok-join_sites.ensures.length ∙ counted)) within))
