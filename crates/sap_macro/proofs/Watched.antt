-- Where nothing is put in, heads stay as they are written.
use Rattle.std.proofs.Common.{◌≡◌, ℕ, false, List, refl, sym, ap, subst, ◌∙◌}
use Rattle.std.specs.Option.{unwrap_or}
use Rattle.sap_terms.specs.Choice.{instance}
use Rattle.sap_terms.specs.NameMap.{value_at}
use Rattle.sap_terms.specs.Tree.{Tree, variable}
use Rattle.sap_process.specs.Action.{Action, new, out, send, input, receive, event, insert, delete, lock, unlock, embedded}
use Rattle.sap_process.specs.Instance.{action_instance}
use Rattle.sap_process.specs.Proc as whole
use Rattle.sap_process.specs.Proc.{Proc}
use Rattle.sap_macro.specs.Expansion.{binding, same_name, unchanged, with_uses}
use Rattle.sap_macro.specs.Seen.{seen}
use Rattle.sap_macro.specs.UpToNames.{fact, named}
use Rattle.sap_macro.specs.Written.{Written, nil, call, Definition}
use Rattle.sap_macro.specs.code.Heads.{IsOver, IsOverBoth, PutsNothing, forked, headed, seen_in}
use Rattle.sap_macro.specs.code.Standings.{choice_of, name_of, tree_or}
use Rattle.sap_macro.specs.code.Steps.{plain_of, IsFormed}
use Rattle.sap_macro.specs.declared.standing.Standing.{Standing}
use Rattle.sap_macro.proofs.Kept.{action_kept, kept}

pub put_name : (s : Standing) → PutsNothing s → (x : List ℕ) → name_of s x ≡ x
put_name s n x = λ i. unwrap_or (value_at (n.1 i) x) x

put_choice : (s : Standing) → PutsNothing s → choice_of s ≡ unchanged
put_choice s n = λ i v. tree_or (value_at (n.0 i) v.name) (variable (named (put_name s n v.name i) v.sort))

pub put_term : (s : Standing) → PutsNothing s → (t : Tree) → instance (choice_of s) t ≡ t
put_term s n t = ap (λ r. instance r t) (put_choice s n) ∙ kept t

bound_same : (a : Action) → binding same_name a ≡ a
bound_same (new x) = refl
bound_same (out t) = refl
bound_same (send t u) = refl
bound_same (input t) = refl
bound_same (receive t u) = refl
bound_same (event f) = refl
bound_same (insert t u) = refl
bound_same (delete t) = refl
bound_same (lock t k) = refl
bound_same (unlock t k) = refl
bound_same (embedded l e r) = refl

pub put_action : (s : Standing) → PutsNothing s → (a : Action) → binding (name_of s) (action_instance (choice_of s) a) ≡ a
put_action s n a =
    (λ i. binding (λ x. put_name s n x i) (action_instance (put_choice s n i) a))
    ∙ ap (binding same_name) (action_kept a) ∙ bound_same a

-- ---- what is seen of a form is seen of what it stands for

pub seen_same : (ds : List Definition) (w v : Written) → with_uses (plain_of ds) w ≡ with_uses (plain_of ds) v → seen_in ds w ≡ seen_in ds v
unfolding seen_in
seen_same ds w v h = ap seen h

module _ (ds : List Definition) (w v : Written) (h : with_uses (plain_of ds) w ≡ with_uses (plain_of ds) v) where
  pub watched_nothing : (q : Proc) → w ≡ nil → q ≡ whole.nil → q ≡ seen_in ds v
  unfolding seen_in
  watched_nothing q is end = end ∙ ap (λ x. seen_in ds x) (sym is) ∙ seen_same ds w v h

  pub watched_use : (f : List ℕ) (ts : List Tree) (q : Proc) → w ≡ call f ts → IsFormed ds w → q ≡ whole.act (event (fact f false ts)) whole.nil → q ≡ seen_in ds v
  unfolding seen_in
  watched_use f ts q is formed end = end ∙ ap seen (sym (stays ts)) ∙ ap (λ x. seen_in ds x) (sym is) ∙ seen_same ds w v h where
    stays : (us : List Tree) → plain_of ds f us ≡ call f us
    stays = subst (IsFormed ds) is formed

  pub watched_one : (s : Standing) (p : Written) (q r : Proc) → PutsNothing s → IsOver w p → q ≡ seen_in ds p → r ≡ headed s w q → r ≡ seen_in ds v
  watched_one s p q r n over one head = head ∙ ap (headed s w) one ∙ sym (over.seen ds s n) ∙ seen_same ds w v h

  pub watched_two : (s : Standing) (p o : Written) (q r z : Proc) → PutsNothing s → IsOverBoth w p o → q ≡ seen_in ds p → r ≡ seen_in ds o → z ≡ forked s w q r → z ≡ seen_in ds v
  watched_two s p o q r z n over one two head =
      head ∙ ap (λ x. forked s w x r) one ∙ ap (forked s w (seen_in ds p)) two ∙ sym (over.seen ds s n) ∙ seen_same ds w v h

pub seen_whole : (ds : List Definition) (w : Written) → seen_in ds w ≡ seen (with_uses (plain_of ds) w)
unfolding seen_in
seen_whole ds w = refl
