-- Rules whose full traces are the same but for empty times show the same, and the same lemmas hold of them.
use Rattle.std.proofs.Common.{◌≡◌, ◌↔◌, List, [], ◌∷◌, refl, sym, ap, subst, ◌∙◌}
use Rattle.std.proofs.lemmas.List.Elements.{All-nil, All-cons, All-head, All-tail}
use Rattle.sap_terms.specs.Message.{AreMessageFacts, IsMessageTrace}
use Rattle.sap_terms.specs.Signature.{Sig}
use Rattle.sap_terms.specs.Trace.{Trace}
use Rattle.sap_formula.specs.Filled.{filled}
use Rattle.sap_formula.specs.Form.{Form, RestrictionForm}
use Rattle.sap_formula.specs.Hide.{hide}
use Rattle.sap_formula.specs.HoldsOf.{HoldsOf}
use Rattle.sap_formula.specs.Laws.{FilledLaw, HideFilledLaw, IsClosed}
use Rattle.sap_formula.specs.Truth.{EachIn, IsTrueOn}
use Rattle.sap_formula.specs.declared.lemma.Mode.{Mode}
use Rattle.sap_formula.specs.declared.lemma.Mode.TheVariants.{AllTraces, ExistsTrace}
use Rattle.sap_restrict.specs.Inline.{formulas}
use Rattle.sap_restrict.specs.Laws.{AdmittedFilledLaw}
use Rattle.sap_restrict.specs.Standard.{IsAdmitted}
use Rattle.sap_rule.specs.RuleSteps.{IsFullTrace}
use Rattle.sap_rule.specs.declared.rule.Rule.{Rule}
use Rattle.sap_translate.specs.Faithful.{AreRestrictionsTrue, IsVisibleTrace}
use Rattle.sap_gen.specs.Carried.{IsFilledTrace}

-- a trace is one of messages with and without its empty times
message_filled : (g : Sig) (tr : Trace) → IsMessageTrace g tr → IsMessageTrace g (filled tr)
message_filled g [] m = m
message_filled g ([] ∷ tr) m = message_filled g tr (All-tail (AreMessageFacts g) [] tr m)
message_filled g ((f ∷ fs) ∷ tr) m =
    All-cons (AreMessageFacts g) (f ∷ fs) (filled tr) (All-head (AreMessageFacts g) (f ∷ fs) tr m) (message_filled g tr (All-tail (AreMessageFacts g) (f ∷ fs) tr m))

message_full : (g : Sig) (tr : Trace) → IsMessageTrace g (filled tr) → IsMessageTrace g tr
message_full g [] m = m
message_full g ([] ∷ tr) m = All-cons (AreMessageFacts g) [] tr (All-nil _) (message_full g tr m)
message_full g ((f ∷ fs) ∷ tr) m =
    All-cons (AreMessageFacts g) (f ∷ fs) tr (All-head (AreMessageFacts g) (f ∷ fs) (filled tr) m) (message_full g tr (All-tail (AreMessageFacts g) (f ∷ fs) (filled tr) m))

-- what is said of empty times
pub record EmptyTimes : Type 0 where
  pub truth : FilledLaw
  pub hidden : HideFilledLaw
  pub admitted : AdmittedFilledLaw

-- the same of a run of other rules, but for empty times
pub record Twin (g : Sig) (others : List Rule) (full : Trace) : Type 0 where
  pub other : Trace
  pub run : IsFullTrace g others other
  pub is : filled other ≡ filled full

-- each full trace of the one rules has such a twin of the others; both are traces of messages
pub record AreTwins (g : Sig) (rules others : List Rule) : Type 0 where
  pub there : (full : Trace) → IsFullTrace g rules full → Twin g others full
  pub back : (full : Trace) → IsFullTrace g others full → Twin g rules full
  pub messages : (full : Trace) → IsFullTrace g rules full → IsMessageTrace g full
  pub messages_too : (full : Trace) → IsFullTrace g others full → IsMessageTrace g full

pub twins : (g : Sig) (rules others : List Rule) → ((tr : Trace) → IsFilledTrace g rules tr ↔ IsFilledTrace g others tr) → ((full : Trace) → IsFullTrace g rules full → IsMessageTrace g full)
    → AreTwins g rules others
twins g rules others same messages = record {
  there = there;
  back = back;
  messages = messages;
  messages_too = λ full r. let t = back full r in message_full g full (subst (IsMessageTrace g) t.is (message_filled g t.other (messages t.other t.run)));
} where
  there : (full : Trace) → IsFullTrace g rules full → Twin g others full
  there full r = let t = (same (filled full)).0 (r.0, full, r.1, refl) in record { other = t.1; run = (t.0, t.2); is = t.3 }

  back : (full : Trace) → IsFullTrace g others full → Twin g rules full
  back full r = let t = (same (filled full)).1 (r.0, full, r.1, refl) in record { other = t.1; run = (t.0, t.2); is = t.3 }

turned : (g : Sig) (rules others : List Rule) → AreTwins g rules others → AreTwins g others rules
turned g rules others t = record { there = t.back; back = t.there; messages = t.messages_too; messages_too = t.messages }

module _ (laws : EmptyTimes) (g : Sig) where
  -- twins are told apart by no closed formula, and are seen as one
  true_too : (u : Form) (x y : Trace) → IsClosed g u → IsMessageTrace g x → IsMessageTrace g y → filled y ≡ filled x → IsTrueOn g u x → IsTrueOn g u y
  true_too u x y c m n e h = (laws.truth g u y n c).1 (subst (IsTrueOn g u) (sym e) ((laws.truth g u x m c).0 h))

  all_true : (rs : List RestrictionForm) (x y : Trace) → EachIn (λ (r : RestrictionForm). IsClosed g r.formula) rs → IsMessageTrace g x → IsMessageTrace g y → filled y ≡ filled x
      → AreRestrictionsTrue g rs x → AreRestrictionsTrue g rs y
  all_true [] x y c m n e h = tt
  all_true (r ∷ rs) x y c m n e h = (true_too r.formula x y c.0 m n e h.0, all_true rs x y c.1 m n e h.1)

  seen_too : (x y tr : Trace) → filled y ≡ filled x → hide x ≡ tr → hide y ≡ tr
  seen_too x y tr e h = sym (laws.hidden y) ∙ ap hide e ∙ laws.hidden x ∙ h

  module _ (rules others : List Rule) (t : AreTwins g rules others) where
    visible : (tr : Trace) → IsVisibleTrace g rules tr → IsVisibleTrace g others tr
    visible tr v =
        let w = t.there v.0 v.1 in
        (w.other, w.run, (laws.admitted g w.other (t.messages_too w.other w.run)).1 (subst (IsAdmitted g) (sym w.is) ((laws.admitted g v.0 (t.messages v.0 v.1)).0 v.2)), seen_too v.0 w.other tr w.is v.3)

    shown_under : (rs : List RestrictionForm) → EachIn (λ (r : RestrictionForm). IsClosed g r.formula) rs → (tr : Trace)
        → (full : Trace) × IsFullTrace g rules full × AreRestrictionsTrue g rs full × (hide full ≡ tr)
        → (full : Trace) × IsFullTrace g others full × AreRestrictionsTrue g rs full × (hide full ≡ tr)
    shown_under rs c tr v =
        let w = t.there v.0 v.1 in
        (w.other, w.run, all_true rs v.0 w.other c (t.messages v.0 v.1) (t.messages_too w.other w.run) w.is v.2, seen_too v.0 w.other tr w.is v.3)

    lemma_holds : (rs : List RestrictionForm) → EachIn (λ (r : RestrictionForm). IsClosed g r.formula) rs → (mode : Mode) (u : Form) → IsClosed g u
        → HoldsOf g (IsFullTrace g rules) (formulas rs) mode u → HoldsOf g (IsFullTrace g others) (formulas rs) mode u
    lemma_holds rs c AllTraces u k h = λ full r a.
        let w = t.back full r in
        let m = t.messages_too full r in
        let n = t.messages w.other w.run in
        true_too u w.other full k n m (sym w.is) (h w.other w.run (all_true rs full w.other c m n w.is a))
    lemma_holds rs c ExistsTrace u k h =
        let w = t.there h.0 h.1 in
        let m = t.messages h.0 h.1 in
        let n = t.messages_too w.other w.run in
        (w.other, w.run, all_true rs h.0 w.other c m n w.is h.2, true_too u h.0 w.other k m n w.is h.3)

  module _ (rules others : List Rule) (t : AreTwins g rules others) where
    pub same_visible : (tr : Trace) → IsVisibleTrace g rules tr ↔ IsVisibleTrace g others tr
    same_visible tr = (visible rules others t tr, visible others rules (turned g rules others t) tr)

    pub same_shown : (rs : List RestrictionForm) → EachIn (λ (r : RestrictionForm). IsClosed g r.formula) rs → (tr : Trace)
        → ((full : Trace) × IsFullTrace g rules full × AreRestrictionsTrue g rs full × (hide full ≡ tr))
        ↔ ((full : Trace) × IsFullTrace g others full × AreRestrictionsTrue g rs full × (hide full ≡ tr))
    same_shown rs c tr = (shown_under rules others t rs c tr, shown_under others rules (turned g rules others t) rs c tr)

    pub same_lemmas : (rs : List RestrictionForm) → EachIn (λ (r : RestrictionForm). IsClosed g r.formula) rs → (mode : Mode) (u : Form) → IsClosed g u
        → HoldsOf g (IsFullTrace g rules) (formulas rs) mode u ↔ HoldsOf g (IsFullTrace g others) (formulas rs) mode u
    same_lemmas rs c mode u k = (lemma_holds rules others t rs c mode u k, lemma_holds others rules (turned g rules others t) rs c mode u k)
