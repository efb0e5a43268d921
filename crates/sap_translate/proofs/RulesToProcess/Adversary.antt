-- The process follows the steps of the adversary and the start.
use Rattle.sap_translate.proofs.Premises.LowerLaws.{Laws}
use Rattle.sap_restrict.specs.ReservedFacts.{init_fact}
use Rattle.sap_translate.specs.Members.{Member}
use Rattle.sap_translate.specs.relation.Shown.{ShowsAt}
use Rattle.sap_restrict.specs.Sentences.{InitOnce}
use Rattle.sap_translate.proofs.Parts.Kept.{kept_init, kept_know, kept_public, kept_applies, kept_learn, kept_own, kept_fresh}
use Rattle.sap_translate.proofs.Parts.Tidy.{Tidy}
use Rattle.sap_translate.proofs.Shared.Totals.{total_found, Found}
use Rattle.sap_translate.proofs.Traces.Visible.{first_init}
use Rattle.sap_templates.specs.ChannelFacts.{fresh_fact}
use Rattle.sap_translate.specs.relation.Agents.{Agent, unborn, running, copying, is_unborn, awaiting, received}
use Rattle.sap_place.specs.StateFacts.{state_fact}
use Rattle.sap_translate.specs.Sound.{SoundPlaces}
use Rattle.sap_process.specs.Configuration.{owns}
use Rattle.sap_process.specs.Proc.{Proc}
use Rattle.sap_process.specs.ProcessSteps.{ProcessStep, ProcessRun}
use Rattle.sap_rule.specs.RuleSteps.{RuleState}
use Rattle.sap_terms.specs.AdversaryFacts.{k_fact, in_fact, out_fact}
use Rattle.sap_terms.specs.Normal.{IsNormalForm}
use Rattle.sap_terms.specs.Piles.{Takes, adds}
use Rattle.sap_terms.specs.Signature.{Sig, HoldsBuiltins, IsPublic, arity_of}
use Rattle.sap_terms.specs.Equations.{equations}
use Rattle.sap_terms.specs.Trace.{Trace}
use Rattle.sap_terms.specs.Tree.{Tree, public, fresh, apply, trees_of}
use Rattle.sap_terms.specs.declared.fact.Fact.{Fact}
use Rattle.std.proofs.Common.{◌≡◌, ℕ, ◌<◌, List, [], ◌∷◌, ◌++◌, Option, Some, None, arith, slice_get}
use Rattle.std.specs.Prelude.{All, Contains, length}
use Rattle.sap_translate.proofs.RulesToProcess.Followed.{Followed, flushed, head_of, is_new}

module _ (laws : Laws) (sig : Sig) (start : Proc) (hold : HoldsBuiltins sig) (fine : SoundPlaces sig start) (s : RuleState) (full : Trace) (w : Followed sig start s full) (clean : Tidy (equations sig) s) where
  pub law_fresh : (n : ℕ) → (Member n s.made → ⊥) → Followed sig start (record s { facts = adds s.facts (fresh_fact (fresh n) ∷ []); made = s.made ++ n ∷ [] }) (full ++ [] ∷ [])
  law_fresh n u = record { agents = w.agents; pending = w.pending; c = w.c; tr = w.tr; reached = w.reached; related = (kept_fresh laws) sig start w.agents w.pending w.c w.tr s full w.related n u }

  pub law_learn : (k : ℕ) (x : Tree) (rest : List (Option Fact)) → Takes s.facts (k ∷ []) (out_fact x ∷ []) rest → Followed sig start (record s { facts = rest; known = s.known ++ x ∷ [] }) (full ++ [] ∷ [])
  law_learn k x rest h = record { agents = w.agents; pending = w.pending; c = w.c; tr = w.tr; reached = w.reached; related = (kept_learn laws) sig start w.agents w.pending w.c w.tr s full w.related k x rest h }

  pub law_own : (k n : ℕ) (rest : List (Option Fact)) → Takes s.facts (k ∷ []) (fresh_fact (fresh n) ∷ []) rest → Followed sig start (record s { facts = rest; known = s.known ++ fresh n ∷ [] }) (full ++ [] ∷ [])
  law_own k n rest h =
      let step : ProcessStep sig w.c [] (owns w.c n) = ProcessStep.adversary_makes n (is_new w.related n (head_of h)) in
      record { agents = w.agents; pending = w.pending; c = owns w.c n; tr = _; reached = ProcessRun.further w.reached step; related = (kept_own laws) sig start w.agents w.pending w.c w.tr s full w.related k n rest h step }

  pub law_public : (a : List ℕ) → Followed sig start (record s { known = s.known ++ public a ∷ [] }) (full ++ [] ∷ [])
  law_public a = record { agents = w.agents; pending = w.pending; c = w.c; tr = w.tr; reached = w.reached; related = (kept_public laws) sig start w.agents w.pending w.c w.tr s full w.related a }

  pub law_applies : (f : List ℕ) (ts : List Tree) (x : Tree) → IsPublic sig f → arity_of sig f ≡ Some (length ts) → All (Contains s.known) ts → IsNormalForm (equations sig) (apply f (trees_of ts)) x → Followed sig start (record s { known = s.known ++ x ∷ [] }) (full ++ [] ∷ [])
  law_applies f ts x free arity all form = record { agents = w.agents; pending = w.pending; c = w.c; tr = w.tr; reached = w.reached; related = (kept_applies laws) sig start w.agents w.pending w.c w.tr s full w.related f ts x free arity all form }

  pub law_know : (x : Tree) → Member x s.known → Followed sig start (record s { facts = adds s.facts (in_fact x ∷ []) }) (full ++ (k_fact x ∷ []) ∷ [])
  law_know x m =
      let y = flushed sig start s full w in
      record { agents = w.agents; pending = Some x; c = y.c; tr = y.tr; reached = y.reached; related = kept_know sig start w.agents y.c y.tr s full y.related x (clean.known x m) m }

  pub law_init : InitOnce (ShowsAt (full ++ (init_fact ∷ []) ∷ [])) → Followed sig start (record s { facts = adds s.facts (state_fact [] [] ∷ []) }) (full ++ (init_fact ∷ []) ∷ [])
  law_init h =
      let none = first_init full h in
      let once = w.related.init in
      go (total_found is_unborn w.agents (omega arith))
    where
      by_case : (t : ℕ) (o : Option Agent) → 0 < is_unborn o → slice_get w.agents t ≡ Some o → Followed sig start (record s { facts = adds s.facts (state_fact [] [] ∷ []) }) (full ++ (init_fact ∷ []) ∷ [])
      by_case t None g e = absurd (omega arith)
      by_case t (Some (running path env body)) g e = absurd (omega arith)
      by_case t (Some (copying path env body)) g e = absurd (omega arith)
      by_case t (Some (awaiting path env m n x y body k)) g e = absurd (omega arith)
      by_case t (Some (received path env m n body k)) g e = absurd (omega arith)
      by_case t (Some (unborn body)) g e =
          record { agents = _; pending = w.pending; c = w.c; tr = w.tr; reached = w.reached; related = (kept_init laws) sig start w.agents w.pending w.c w.tr s full w.related t body e }

      go : Found is_unborn w.agents → Followed sig start (record s { facts = adds s.facts (state_fact [] [] ∷ []) }) (full ++ (init_fact ∷ []) ∷ [])
      go f = by_case f.number f.item f.counts f.is
