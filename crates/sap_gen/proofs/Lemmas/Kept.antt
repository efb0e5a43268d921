-- What the rules of a sound process keep of lemmas.
use Rattle.std.proofs.Common.{◌≡◌, ◌↔◌, List, [], ◌∷◌, ◌++◌, refl, subst, sym}
use Rattle.sap_terms.specs.Message.{IsMessageTrace}
use Rattle.sap_terms.specs.Signature.{Sig, HoldsBuiltins}
use Rattle.sap_terms.specs.Trace.{Trace}
use Rattle.sap_formula.specs.Form.{Form, RestrictionForm}
use Rattle.sap_formula.specs.Hide.{hide}
use Rattle.sap_formula.specs.HoldsOf.{HoldsOf}
use Rattle.sap_formula.specs.Laws.{IsCheckedVisible}
use Rattle.sap_formula.specs.Truth.{EachIn, IsTrueOn}
use Rattle.sap_formula.specs.declared.lemma.Mode.{Mode}
use Rattle.sap_formula.specs.declared.lemma.Mode.TheVariants.{AllTraces, ExistsTrace}
use Rattle.sap_process.specs.Proc.{Proc}
use Rattle.sap_process.specs.ProcessSteps.{IsProcessTrace}
use Rattle.sap_restrict.specs.Inline.{formulas, inlined}
use Rattle.sap_restrict.specs.Restrictions.{needed_restrictions}
use Rattle.sap_rule.specs.RuleSteps.{IsFullTrace}
use Rattle.sap_translate.specs.Faithful.{AreRestrictionsTrue}
use Rattle.sap_translate.specs.Sound.{IsSound}
use Rattle.sap_templates.specs.Templates.{rules_of}
use Rattle.sap_translate.specs.relation.Spelled.{IsProcessOver}
use Rattle.sap_gen.proofs.Carried.{carried}
use Rattle.sap_gen.proofs.Lemmas.LemmaLaws.{LemmaLaws}

-- the formula of each is checked, and none of its facts is hidden
abbrev pub AreVisible : Sig → List RestrictionForm → Type 0
AreVisible g rs = EachIn (λ (r : RestrictionForm). IsCheckedVisible g r.formula) rs

-- restrictions that are true

both_true : (g : Sig) (rs ss : List RestrictionForm) (tr : Trace) → AreRestrictionsTrue g rs tr → AreRestrictionsTrue g ss tr → AreRestrictionsTrue g (rs ++ ss) tr
both_true g [] ss tr a b = b
both_true g (r ∷ rs) ss tr a b = (a.0, both_true g rs ss tr a.1 b)

first_true : (g : Sig) (rs ss : List RestrictionForm) (tr : Trace) → AreRestrictionsTrue g (rs ++ ss) tr → AreRestrictionsTrue g rs tr
first_true g [] ss tr h = tt
first_true g (r ∷ rs) ss tr h = (h.0, first_true g rs ss tr h.1)

second_true : (g : Sig) (rs ss : List RestrictionForm) (tr : Trace) → AreRestrictionsTrue g (rs ++ ss) tr → AreRestrictionsTrue g ss tr
second_true g [] ss tr h = h
second_true g (r ∷ rs) ss tr h = second_true g rs ss tr h.1

-- what carries these formulas holds of a set of traces exactly where the formula holds of it under them
inlined_holds : (laws : LemmaLaws) (g : Sig) (S : Trace → Type 0) (us : List Form) (m : Mode) (f : Form) → HoldsOf g S us m f ↔ HoldsOf g S [] m (inlined m us f)
inlined_holds laws g S us m f = carried laws.for_all laws.for_some g S us m f

module _ (laws : LemmaLaws) (g : Sig) (p : Proc) (hold : HoldsBuiltins g) (sound : IsSound g p) (over : IsProcessOver g p) where
  full_messages : (full : Trace) → IsFullTrace g (rules_of p) full → IsMessageTrace g full
  full_messages full w = laws.shown.messages g p full hold over w

  hidden_true : (f : Form) (full : Trace) → IsFullTrace g (rules_of p) full → IsCheckedVisible g f → IsTrueOn g f full ↔ IsTrueOn g f (hide full)
  hidden_true f full w v = laws.hide g f full (full_messages full w) v

  all_hidden : (rs : List RestrictionForm) (full : Trace) → IsFullTrace g (rules_of p) full → AreVisible g rs → AreRestrictionsTrue g rs full ↔ AreRestrictionsTrue g rs (hide full)
  all_hidden [] full w v = (λ h. tt, λ h. tt)
  all_hidden (r ∷ rs) full w v =
      let one = hidden_true r.formula full w v.0 in
      let rest = all_hidden rs full w v.1 in
      (λ h. (one.0 h.0, rest.0 h.1), λ h. (one.1 h.0, rest.1 h.1))

  module _ (rs : List RestrictionForm) (visible : AreVisible g rs) where
    -- this is seen of some run of the rules on whose full trace the restrictions that the process needs and these are true
    abbrev pub IsSeen : Trace → Type 0
    IsSeen tr = (full : Trace) × IsFullTrace g (rules_of p) full × AreRestrictionsTrue g (needed_restrictions p ++ rs) full × (hide full ≡ tr)

    pub seen_from : (tr : Trace) → IsProcessTrace g p tr → AreRestrictionsTrue g rs tr → IsSeen tr
    seen_from tr t h =
        let w = laws.shown.all g p hold sound over tr t in
        let needed = (laws.shown.needed g p w.0 over w.1).1 w.2 in
        let own = (all_hidden rs w.0 w.1 visible).1 (subst (λ x. AreRestrictionsTrue g rs x) (sym w.3) h) in
        (w.0, w.1, both_true g (needed_restrictions p) rs w.0 needed own, w.3)

    pub seen_to : (tr : Trace) → IsSeen tr → IsProcessTrace g p tr × AreRestrictionsTrue g rs tr
    seen_to tr w =
        let needed = (laws.shown.needed g p w.0 over w.1).0 (first_true g (needed_restrictions p) rs w.0 w.2) in
        let own = (all_hidden rs w.0 w.1 visible).0 (second_true g (needed_restrictions p) rs w.0 w.2) in
        (laws.shown.only g p hold sound over tr (w.0, w.1, needed, w.3), subst (λ x. AreRestrictionsTrue g rs x) w.3 own)

    -- a lemma
    pub lemma_kept : (m : Mode) (f : Form) → IsCheckedVisible g f → HoldsOf g (IsProcessTrace g p) (formulas rs) m f ↔ HoldsOf g (IsFullTrace g (rules_of p)) (formulas (needed_restrictions p ++ rs)) m f
    lemma_kept AllTraces f v = (
      λ h full w u.
          let t = seen_to (hide full) (full, w, u, refl) in
          (hidden_true f full w v).1 (h (hide full) t.0 t.1),
      λ h tr t u.
          let w = seen_from tr t u in
          subst (λ x. IsTrueOn g f x) w.3 ((hidden_true f w.0 w.1 v).0 (h w.0 w.1 w.2)),
    )
    lemma_kept ExistsTrace f v = (
      λ h.
          let w = seen_from h.0 h.1 h.2 in
          (w.0, w.1, w.2, (hidden_true f w.0 w.1 v).1 (subst (λ x. IsTrueOn g f x) (sym w.3) h.3)),
      λ h.
          let t = seen_to (hide h.0) (h.0, h.1, h.2, refl) in
          (hide h.0, t.0, t.1, (hidden_true f h.0 h.1 v).0 h.3),
    )

    -- and one that carries the restrictions
    pub inlined_kept : (m : Mode) (f : Form) → IsCheckedVisible g f → HoldsOf g (IsProcessTrace g p) (formulas rs) m f ↔ HoldsOf g (IsFullTrace g (rules_of p)) [] m (inlined m (formulas (needed_restrictions p ++ rs)) f)
    inlined_kept m f v =
        let kept = lemma_kept m f v in
        let carried = inlined_holds laws g (IsFullTrace g (rules_of p)) (formulas (needed_restrictions p ++ rs)) m f in
        (λ h. carried.0 (kept.0 h), λ h. kept.1 (carried.1 h))
