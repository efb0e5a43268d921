-- What is written where a key is found to be set, and where an embedded rule is used.
use Rattle.std.proofs.Common.{◌≡◌, ℕ, List, [], ◌∷◌, ◌++◌, Option, Some, None, option_map, length, map, refl, sym, ap, subst, ◌∙◌}
use Rattle.std.specs.Prelude.{slice_get, codes}
use Rattle.sap_terms.specs.Tree.{Tree}
use Rattle.sap_terms.specs.Variables.{facts_vars}
use Rattle.sap_terms.specs.View.{tree, term, term-tree}
use Rattle.sap_terms.specs.declared.binding.Binding.{Binding}
use Rattle.sap_terms.specs.declared.fact.Fact.{Fact}
use Rattle.sap_terms.specs.declared.term.Term.{Term}
use Rattle.sap_terms.specs.declared.var.Var.{Var}
use Rattle.sap_process.specs.Action.{embedded}
use Rattle.sap_process.specs.Proc.{Proc, act, lookup}
use Rattle.sap_process.specs.Sites.{message_var}
use Rattle.sap_runs.specs.declared.process_step.PStep.TheVariants as line
use Rattle.sap_runs.specs.declared.rule_step.RStep.{RStep}
use Rattle.sap_lines.specs.Places.{form_proc}
use Rattle.sap_lines.specs.declared.form.Form.{Form}
use Rattle.sap_lines.specs.declared.form.Form.TheVariants.{Nil, Par, Rep, New, Out, Send, In, Recv, If, Event, Insert, Delete, Lookup, Lock, Unlock, Embedded}
use Rattle.sap_translate.specs.relation.Answers.{goes_on, widened}
use Rattle.sap_translate.specs.relation.Envs.{just, join}
use Rattle.sap_forward.specs.LinesFor.{uses}
use Rattle.sap_forward.specs.Written.{IsWrittenAsRules, moved, with_process_facts}
use Rattle.sap_forward.specs.code.Desk.{Keeps, WritesRules}
use Rattle.sap_forward.specs.code.Steps.{Finds, Embeds, WritesAny, goes, piles, bound_var, right_count}
use Rattle.sap_forward.specs.declared.desk.Desk.{Desk}
use Rattle.sap_forward.proofs.Lists.{some_same, all_got}
use Rattle.sap_forward.proofs.Seated.{first_stands}
use Rattle.sap_forward.proofs.Keeping.{has_seat, go_kept, pile_kept}

lookup_form : (f : Form) (p q r s : Proc) (m : Tree) (y : Var) → form_proc f p q ≡ lookup m y r s → (t : Term) × (f ≡ Lookup t y)
lookup_form (Lookup t x) p q r s m y h = (t, let e : x ≡ y = cc in ap (Lookup t) e)
lookup_form Nil p q r s m y h = absurd (cc)
lookup_form Par p q r s m y h = absurd (cc)
lookup_form Rep p q r s m y h = absurd (cc)
lookup_form (New x) p q r s m y h = absurd (cc)
lookup_form (Out t) p q r s m y h = absurd (cc)
lookup_form (Send t u) p q r s m y h = absurd (cc)
lookup_form (In t) p q r s m y h = absurd (cc)
lookup_form (Recv t u) p q r s m y h = absurd (cc)
lookup_form (If t u) p q r s m y h = absurd (cc)
lookup_form (Event f) p q r s m y h = absurd (cc)
lookup_form (Insert t u) p q r s m y h = absurd (cc)
lookup_form (Delete t) p q r s m y h = absurd (cc)
lookup_form (Lock t n) p q r s m y h = absurd (cc)
lookup_form (Unlock t n) p q r s m y h = absurd (cc)
lookup_form (Embedded a b c) p q r s m y h = absurd (cc)

embedded_form : (f : Form) (p q s : Proc) (l e r : List Fact) → form_proc f p q ≡ act (embedded l e r) s → f ≡ Embedded l e r
embedded_form (Embedded a b c) p q s l e r h =
    let x : a ≡ l = cc in let y : b ≡ e = cc in let z : c ≡ r = cc in λ i. Embedded (x i) (y i) (z i)
embedded_form Nil p q s l e r h = absurd (cc)
embedded_form Par p q s l e r h = absurd (cc)
embedded_form Rep p q s l e r h = absurd (cc)
embedded_form (New x) p q s l e r h = absurd (cc)
embedded_form (Out t) p q s l e r h = absurd (cc)
embedded_form (Send t u) p q s l e r h = absurd (cc)
embedded_form (In t) p q s l e r h = absurd (cc)
embedded_form (Recv t u) p q s l e r h = absurd (cc)
embedded_form (If t u) p q s l e r h = absurd (cc)
embedded_form (Event f) p q s l e r h = absurd (cc)
embedded_form (Insert t u) p q s l e r h = absurd (cc)
embedded_form (Delete t) p q s l e r h = absurd (cc)
embedded_form (Lookup t x) p q s l e r h = absurd (cc)
embedded_form (Lock t n) p q s l e r h = absurd (cc)
embedded_form (Unlock t n) p q s l e r h = absurd (cc)

-- a term that was found is the one with its tree
found_term : (found : Option Term) (t : Term) → option_map tree found ≡ Some (tree t) → found ≡ Some t
found_term None t h = absurd (cc)
found_term (Some u) t h = let e = some_same h in ap Some (sym (term-tree u) ∙ ap term e ∙ term-tree t)

pub writes_found : (d e : Desk) (t : ℕ) (found : Option Term) (before after : List RStep) → Finds d e t found before after → WritesRules d e (line.Found t) found before after
writes_found d e t found before after finds g start drawn agents later c tables behind ls keeps (IsWrittenAsRules.finds t' k path env m x v y b p q seated normal stored var value) binds =
    let h = has_seat start drawn agents tables d keeps t' k path env (lookup m y p q) seated in
    let form = lookup_form h.place.form _ _ p q m y (sym (keeps.places.places.procs h.seat.place h.place h.at.1) ∙ h.sits.proc) in
    let is = found_term found b.term (binds _ _ b refl) in
    let w = finds h.seat h.place b.term y h.at (ap bound_var form.1) is in
    let first = first_stands d.places keeps.places.places h.seat.place h.place h.at.1 (lookup m y p q) h.sits.proc p refl in
    let a = h.sits.way in let n = h.sits.number in
    let one : record { var = message_var y; term = b.term } ≡ b = λ i. record { var = sym var i; term = b.term } in (
      w.1 ∙ (λ i. before ++ uses (codes "Found_") (a i) (n i ∷ []) (one i ∷ []) ∷ []),
      subst (Keeps start drawn (goes_on agents t' path (join env (just (message_var y) v)) p) (moved tables t' 0)) (sym w.0)
          (go_kept start drawn agents tables d keeps t' k 1 h.place.first 0 path (join env (just (message_var y) v)) (lookup m y p q) p h.seat h.sits first),
    )

pub writes_embedded : (d e : Desk) (t : ℕ) (ks : List ℕ) (b : List Binding) (before after : List RStep) → Embeds d e t ks b before after → WritesAny d e (line.Embedded t ks b) before after
writes_embedded d e t ks b before after embeds found g start drawn agents later c tables behind ls keeps (IsWrittenAsRules.embeds t' k ks' js b' path env l acts r σ p seated cited) binds =
    let h = has_seat start drawn agents tables d keeps t' k path env (act (embedded l acts r) p) seated in
    let form = embedded_form h.place.form _ _ p l acts r (sym (keeps.places.places.procs h.seat.place h.place h.at.1) ∙ h.sits.proc) in
    let w = embeds h.seat h.place h.at in
    let come = ap right_count form in
    let numbers = all_got d.facts ks' js (ap (λ (fs : List ℕ). map (slice_get fs) ks') keeps.facts ∙ cited) in
    let first = first_stands d.places keeps.places.places h.seat.place h.place h.at.1 (act (embedded l acts r) p) h.sits.proc p refl in
    let a = h.sits.way in let n = h.sits.number in
    let wider = widened env σ (facts_vars (l ++ (acts ++ r))) in
    let gone = go_kept start drawn agents tables d keeps t' k 1 h.place.first 0 path wider (act (embedded l acts r) p) p h.seat h.sits first in (
      w.1 ∙ (λ i. before ++ uses (codes "Rule_") (a i) (n i ∷ numbers i) b' ∷ []),
      subst (Keeps start drawn (goes_on agents t' path wider p) (with_process_facts (moved tables t' 0) (length r))) (sym (w.0 ∙ ap (piles (goes d t' h.seat 1 h.place.first 0)) come))
          (pile_kept start drawn (goes_on agents t' path wider p) (moved tables t' 0) (goes d t' h.seat 1 h.place.first 0) gone (length r)),
    )
