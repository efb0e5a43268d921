-- Names that the adversary took, by hand.
use Rattle.std.proofs.Common.{◌≡◌, ℕ, zero, suc, List, [], ◌∷◌, Bool, true, false, Some, None, refl, sym, ap, subst, slice_get, lit<}
use Rattle.std.specs.Prelude.{Contains, codes}
use Rattle.std.specs.List.{AllZip}
use Rattle.std.specs.Str.{bytes_eq}
use Rattle.sap_terms.specs.AdversaryFacts.{linear, out_fact, fr_fact}
use Rattle.sap_terms.specs.Choice.{Choice}
use Rattle.sap_terms.specs.Equal.{same}
use Rattle.sap_terms.specs.Equations.{equations}
use Rattle.sap_terms.specs.Laws.{NamesAreMessages}
use Rattle.sap_terms.specs.Message.{IsMessage, IsMessageChoice}
use Rattle.sap_terms.specs.Modulo.{IsEqualFact}
use Rattle.sap_terms.specs.Piles.{Pile, Takes, nothing, one}
use Rattle.sap_terms.specs.Signature.{Sig}
use Rattle.sap_terms.specs.Tree.{Tree, fresh}
use Rattle.sap_terms.specs.declared.fact.Fact.{Fact}
use Rattle.sap_terms.specs.declared.var.Sort.{Sort}
use Rattle.sap_terms.specs.declared.var.Sort.TheVariants.{Msg, Fresh, Pub}
use Rattle.sap_rule.specs.RuleSteps.{RuleState, RuleStep, IsUse, makes_name, learns, owns, knows_public, applies, gives, uses}
use Rattle.sap_rule.specs.StepExamples.{a, shown_fact, state, telling}
use Rattle.sap_rule.specs.declared.rule.Rule.{Rule}
use Rattle.sap_rule.proofs.ExactSteps.{alone}
use Rattle.sap_rule.proofs.StepForms.{fresh_form}

-- no fact stands
abbrev Gone : Pile → Type 0
Gone facts = (j : ℕ) (f : Fact) → slice_get facts j ≡ Some (Some f) → ⊥

pub gone_one : Gone (None ∷ [])
gone_one zero f e = cc
gone_one (suc j) f e = cc

nothing_taken : {facts rest : Pile} {ks : List ℕ} {left : List Fact} → Takes facts ks left rest → Gone facts → left ≡ []
nothing_taken nothing gone = refl
nothing_taken (one {k = k} {f = f} got tail) gone = absurd (gone k f got)

one_left : (R : Fact → Fact → Type 0) (f : Fact) (left : List Fact) → AllZip R (f ∷ []) left → left ≡ [] → ⊥
one_left R f [] h e = h
one_left R f (x ∷ xs) h e = cc

-- the first fact is a K
abbrev is_k : List Fact → Bool
is_k [] = false
is_k (f ∷ fs) = bytes_eq f.name (codes "K")

pub not_shown : (g : Sig) (rules : List Rule) (s z : RuleState) (acts : List Fact) (t : Tree) → RuleStep g rules s acts z → rules ≡ telling ∷ [] → Gone s.facts
    → acts ≡ shown_fact t ∷ [] → ⊥
not_shown g rules s z acts t (makes_name m new) rs gone e = let p : [] ≡ shown_fact t ∷ [] = e in cc
not_shown g rules s z acts t (learns k u takes) rs gone e = let p : [] ≡ shown_fact t ∷ [] = e in cc
not_shown g rules s z acts t (owns k m takes) rs gone e = let p : [] ≡ shown_fact t ∷ [] = e in cc
not_shown g rules s z acts t (knows_public m) rs gone e = let p : [] ≡ shown_fact t ∷ [] = e in cc
not_shown g rules s z acts t (applies f ts u is_public arity known form) rs gone e = let p : [] ≡ shown_fact t ∷ [] = e in cc
not_shown g rules s z acts t (gives u known) rs gone e = let p : true ≡ false = ap is_k e in cc
not_shown g rules s z acts t (uses r ks σ left shown right among takes by) rs gone e =
    let is : r ≡ telling = sym (alone telling r (subst (λ xs. Contains xs r) rs among)) in
    one_left (IsEqualFact (equations g)) (linear (codes "Fr") (σ _ ∷ [])) left (subst (λ q. IsUse g q σ left shown right) is by).takes (nothing_taken takes gone)

-- each variable stands for a name: `~x` for the fourth
abbrev fourth : Choice
fourth v = of v.sort
  where
    of : Sort → Tree
    of Msg = a
    of Fresh = fresh 4
    of Pub = a

fourth_message : NamesAreMessages → (g : Sig) → IsMessageChoice g fourth
fourth_message all g v = of v.sort
  where
    of : (s : Sort) → IsMessage g s (fourth (record { name = v.name; sort = s }))
    of Msg = all.public_name g Msg _ refl
    of Fresh = all.fresh_name g Fresh 4 refl
    of Pub = all.public_name g Pub _ refl

pub other_shown : NamesAreMessages → (g : Sig) → RuleStep g (telling ∷ []) (state (None ∷ Some (fr_fact 4) ∷ []) (fresh 3 ∷ []) (3 ∷ 4 ∷ [])) (shown_fact (fresh 4) ∷ [])
    (state (None ∷ None ∷ Some (out_fact (fresh 4)) ∷ []) (fresh 3 ∷ []) (3 ∷ 4 ∷ []))
other_shown all g = uses telling (1 ∷ []) fourth (fr_fact 4 ∷ []) (shown_fact (fresh 4) ∷ []) (out_fact (fresh 4) ∷ []) (0, lit< tt, refl)
    (one refl nothing)
    (record {
      messages = fourth_message all g;
      takes = (record { name = refl; persistent = refl; args = (same, tt) }, tt);
      shows = (record { name = refl; persistent = refl; args = (fresh_form (equations g) 4, tt) }, tt);
      adds = (record { name = refl; persistent = refl; args = (fresh_form (equations g) 4, tt) }, tt);
    })
