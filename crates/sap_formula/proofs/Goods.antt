-- What the facts of a trace of messages have.
use Rattle.std.proofs.Common.{◌≡◌, ℕ, zero, suc, List, [], ◌∷◌}
use Rattle.std.specs.Prelude.{All}
use Rattle.std.proofs.lemmas.List.Elements.{All-head, All-tail}
use Rattle.sap_formula.specs.Truth.{EachIn, facts_at}
use Rattle.sap_formula.specs.Laws.{MessageFactsLaw}
use Rattle.sap_formula.specs.Messages.{AreAnyMessages, HasMessages}
use Rattle.sap_terms.specs.Message.{AreMessageFacts, IsMessage, IsMessageFact, IsMessageTrace}
use Rattle.sap_terms.specs.Signature.{Sig}
use Rattle.sap_terms.specs.Trace.{Trace}
use Rattle.sap_terms.specs.Tree.{Tree, trees_of}
use Rattle.sap_terms.specs.declared.fact.Fact.{Fact}
use Rattle.sap_terms.specs.declared.var.Sort.TheVariants.{Msg}

pub good_args : (g : Sig) (ts : List Tree) → All (IsMessage g Msg) ts → AreAnyMessages g (trees_of ts)
good_args g [] m = (tt, tt, tt)
good_args g (t ∷ ts) m =
    let first = All-head (IsMessage g Msg) t ts m in
    let r = good_args g ts (All-tail (IsMessage g Msg) t ts m) in
    ((first.ground, r.0), (first.over, r.1), (first.normal, r.2))

pub good_facts : (g : Sig) (p : List Fact) → AreMessageFacts g p → EachIn (HasMessages g) p
good_facts g [] m = tt
good_facts g (f ∷ p) m = (good_args g f.args (All-head (IsMessageFact g) f p m), good_facts g p (All-tail (IsMessageFact g) f p m))

pub good_trace : (g : Sig) (tr : Trace) → IsMessageTrace g tr → EachIn (EachIn (HasMessages g)) tr
good_trace g [] m = tt
good_trace g (p ∷ tr) m = (good_facts g p (All-head (AreMessageFacts g) p tr m), good_trace g tr (All-tail (AreMessageFacts g) p tr m))

pub each_at : (P : Fact → Type 0) (tr : Trace) → EachIn (EachIn P) tr → (k : ℕ) → EachIn P (facts_at tr k)
each_at P [] e k = tt
each_at P (p ∷ ps) e zero = e.0
each_at P (p ∷ ps) e (suc k) = each_at P ps e.1 k

-- each fact of a time of such a trace
pub goods_at : MessageFactsLaw
goods_at g tr m k = each_at (HasMessages g) tr (good_trace g tr m) k
