-- Steps of well-made rules keep messages.
use Rattle.std.proofs.Common.{◌≡◌, ℕ, suc, List, [], ◌∷◌, length, map, Some, refl, sym, ap, ◌∙◌}
use Rattle.std.specs.Prelude.{All, Contains}
use Rattle.std.specs.List.{AllZip}
use Rattle.std.proofs.lemmas.List.Elements.{All-nil, All-cons, All-head, All-tail, All-push, All-contains, All-weaker}
use Rattle.sap_terms.specs.AdversaryFacts.{linear, in_fact, fr_fact}
use Rattle.sap_terms.specs.Choice.{Choice, instance, instances}
use Rattle.sap_terms.specs.Equations.{equations}
use Rattle.sap_terms.specs.Ground.{IsGround, AreGround}
use Rattle.sap_terms.specs.Laws.{NamesAreMessages}
use Rattle.sap_terms.specs.Message.{IsMessage, IsMessageChoice, IsOver, AreOver, IsMessageFact, AreMessageFacts, IsFactOver}
use Rattle.sap_terms.specs.Modulo.{instance_facts, AreFormsOfFacts}
use Rattle.sap_terms.specs.Normal.{IsNormalForm}
use Rattle.sap_terms.specs.Signature.{Sig, HoldsBuiltins, arity_of}
use Rattle.sap_terms.specs.Tree.{Tree, variable, public, fresh, apply, Trees, none, more, trees_of, list_of, list_of-trees_of}
use Rattle.sap_terms.specs.declared.fact.Fact.{Fact}
use Rattle.sap_terms.specs.declared.var.Sort.TheVariants.{Msg}
use Rattle.sap_rewrite.specs.Laws.{FormsAreMessages}
use Rattle.sap_rule.specs.Messages.{TakenAreMessages, StepsKeepMessages, RunsReachMessages}
use Rattle.sap_rule.specs.RuleSteps.{starts, further, makes_name, learns, owns, knows_public, applies, gives, uses}
use Rattle.sap_rule.specs.WellMade.{IsWellMade}
use Rattle.sap_rule.proofs.Takings.{taken, added}

-- the instance of a term over the signature is ground and over it
instances_length : (σ : Choice) (ts : Trees) → length (list_of (instances σ ts)) ≡ length (list_of ts)
instances_length σ none = refl
instances_length σ (more t ts) = ap suc (instances_length σ ts)

mutual
  instance_closed : (g : Sig) (σ : Choice) (t : Tree) → IsMessageChoice g σ → IsOver g t → IsGround (instance σ t) × IsOver g (instance σ t)
  instance_closed g σ (variable v) m o = ((m v).ground, (m v).over)
  instance_closed g σ (public n) m o = (tt, tt)
  instance_closed g σ (fresh k) m o = (tt, tt)
  instance_closed g σ (apply f ts) m o =
      let q = instances_closed g σ ts m o.1 in
      (q.0, (o.0 ∙ ap Some (sym (instances_length σ ts)), q.1))

  instances_closed : (g : Sig) (σ : Choice) (ts : Trees) → IsMessageChoice g σ → AreOver g ts → AreGround (instances σ ts) × AreOver g (instances σ ts)
  instances_closed g σ none m o = (tt, tt)
  instances_closed g σ (more t ts) m o =
      let x = instance_closed g σ t m o.0 in
      let y = instances_closed g σ ts m o.1 in
      ((x.0, y.0), (x.1, y.1))

-- normal forms of instances of terms over the signature are messages
args_messages : FormsAreMessages → (g : Sig) (σ : Choice) (ts ns : List Tree) → HoldsBuiltins g → IsMessageChoice g σ → AreOver g (trees_of ts) → AllZip (IsNormalForm (equations g)) (map (instance σ) ts) ns → All (IsMessage g Msg) ns
args_messages forms g σ [] [] k m o a = All-nil (IsMessage g Msg)
args_messages forms g σ (t ∷ ts) (n ∷ ns) k m o a =
    let q = instance_closed g σ t m o.0 in
    All-cons (IsMessage g Msg) n ns (forms g (instance σ t) n k q.0 q.1 a.0) (args_messages forms g σ ts ns k m o.1 a.1)
args_messages forms g σ [] (n ∷ ns) k m o a = absurd a
args_messages forms g σ (t ∷ ts) [] k m o a = absurd a

facts_messages : FormsAreMessages → (g : Sig) (σ : Choice) (fs ns : List Fact) → HoldsBuiltins g → IsMessageChoice g σ → All (IsFactOver g) fs → AreFormsOfFacts (equations g) (instance_facts σ fs) ns → AreMessageFacts g ns
facts_messages forms g σ [] [] k m o a = All-nil (IsMessageFact g)
facts_messages forms g σ (f ∷ fs) (n ∷ ns) k m o a =
    All-cons (IsMessageFact g) n ns (args_messages forms g σ f.args n.args k m (All-head (IsFactOver g) f fs o) a.0.args)
    (facts_messages forms g σ fs ns k m (All-tail (IsFactOver g) f fs o) a.1)
facts_messages forms g σ [] (n ∷ ns) k m o a = absurd a
facts_messages forms g σ (f ∷ fs) [] k m o a = absurd a

-- messages are ground and over the signature
all_ground : (g : Sig) (ts : List Tree) → All (IsMessage g Msg) ts → AreGround (trees_of ts)
all_ground g [] h = tt
all_ground g (t ∷ ts) h = ((All-head (IsMessage g Msg) t ts h).ground, all_ground g ts (All-tail (IsMessage g Msg) t ts h))

all_over : (g : Sig) (ts : List Tree) → All (IsMessage g Msg) ts → AreOver g (trees_of ts)
all_over g [] h = tt
all_over g (t ∷ ts) h = ((All-head (IsMessage g Msg) t ts h).over, all_over g ts (All-tail (IsMessage g Msg) t ts h))

single : (g : Sig) (name : List ℕ) (t : Tree) → IsMessage g Msg t → AreMessageFacts g (linear name (t ∷ []) ∷ [])
single g name t h =
    All-cons (IsMessageFact g) (linear name (t ∷ [])) [] (All-cons (IsMessage g Msg) t [] h (All-nil (IsMessage g Msg))) (All-nil (IsMessageFact g))

argument : (g : Sig) (name : List ℕ) (t : Tree) → AreMessageFacts g (linear name (t ∷ []) ∷ []) → IsMessage g Msg t
argument g name t h = All-head (IsMessage g Msg) t [] (All-head (IsMessageFact g) (linear name (t ∷ [])) [] h)

pub from_messages : TakenAreMessages
from_messages g s ks fs rest h takes = (taken (IsMessageFact g) takes h.facts).0

pub kept : NamesAreMessages → FormsAreMessages → StepsKeepMessages
kept names forms g rules s z acts builtins well h (makes_name n new) = (
  All-nil (IsMessageFact g),
  record { facts = added (IsMessageFact g) s.facts (fr_fact n ∷ []) h.facts (single g _ (fresh n) (names.fresh_name g Msg n refl)); known = h.known },
)
kept names forms g rules s z acts builtins well h (learns k t takes) =
    let q = taken (IsMessageFact g) takes h.facts in (
      All-nil (IsMessageFact g),
      record { facts = q.1; known = All-push (IsMessage g Msg) s.known t h.known (argument g _ t q.0) },
    )
kept names forms g rules s z acts builtins well h (owns k n takes) =
    let q = taken (IsMessageFact g) takes h.facts in (
      All-nil (IsMessageFact g),
      record { facts = q.1; known = All-push (IsMessage g Msg) s.known (fresh n) h.known (names.fresh_name g Msg n refl) },
    )
kept names forms g rules s z acts builtins well h (knows_public a) = (
  All-nil (IsMessageFact g),
  record { facts = h.facts; known = All-push (IsMessage g Msg) s.known (public a) h.known (names.public_name g Msg a refl) },
)
kept names forms g rules s z acts builtins well h (applies f ts t is_public arity known form) =
    let all : All (IsMessage g Msg) ts = All-weaker (Contains s.known) (IsMessage g Msg) (λ u c. All-contains (IsMessage g Msg) s.known u h.known c) ts known in
    let held : arity_of g f ≡ Some (length (list_of (trees_of ts))) = arity ∙ ap (λ us. Some (length us)) (sym (list_of-trees_of ts)) in (
      All-nil (IsMessageFact g),
      record {
        facts = h.facts;
        known = All-push (IsMessage g Msg) s.known t h.known (forms g (apply f (trees_of ts)) t builtins (all_ground g ts all) (held, all_over g ts all) form);
      },
    )
kept names forms g rules s z acts builtins well h (gives t known) =
    let one = All-contains (IsMessage g Msg) s.known t h.known known in
    (single g _ t one, record { facts = added (IsMessageFact g) s.facts (in_fact t ∷ []) h.facts (single g _ t one); known = h.known })
kept names forms g rules s z acts builtins well h (uses {rest = rest} r ks σ left shown right among takes used) =
    let q = taken (IsMessageFact g) takes h.facts in
    let over = (All-contains (IsWellMade g) rules r well among).over in (
      facts_messages forms g σ r.acts acts builtins used.messages over.acts used.shows,
      record {
        facts = added (IsMessageFact g) rest right q.1 (facts_messages forms g σ r.right right builtins used.messages over.right used.adds);
        known = h.known;
      },
    )

pub reached : StepsKeepMessages → RunsReachMessages
reached keep g rules s full builtins well starts = (
  All-nil (AreMessageFacts g),
  record { facts = All-nil _; known = All-nil (IsMessage g Msg) },
)
reached keep g rules z full builtins well (further {s = s} {full = before} {acts = acts} run step) =
    let q = reached keep g rules s before builtins well run in
    let n = keep g rules s z acts builtins well q.1 step in
    (All-push (AreMessageFacts g) before acts q.0 n.0, n.1)
