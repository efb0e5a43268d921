-- The tables behind a line, by the case of what is written for it; and those before the first.
use Rattle.std.proofs.Common.{◌≡◌, ℕ, zero, suc, List, [], ◌∷◌, ◌++◌, Option, Some, None, refl, slice_get}
use Rattle.sap_terms.specs.AdversaryFacts.{fr_fact}
use Rattle.sap_terms.specs.Signature.{Sig}
use Rattle.sap_terms.specs.Trace.{Trace}
use Rattle.sap_terms.specs.Tree.{Tree, fresh, public}
use Rattle.sap_terms.specs.Variables.{tree_vars, facts_vars}
use Rattle.sap_terms.specs.declared.fact.Fact.{Fact}
use Rattle.sap_process.specs.Action as action
use Rattle.sap_process.specs.Configuration.{Config}
use Rattle.sap_process.specs.Proc as whole
use Rattle.sap_process.specs.Proc.{Proc, act}
use Rattle.sap_process.specs.Scopes.{lock_var}
use Rattle.sap_process.specs.Sites.{fresh_var, message_var}
use Rattle.sap_rule.specs.RuleSteps.{RuleState}
use Rattle.sap_runs.specs.declared.process_step.PStep.{PStep}
use Rattle.sap_runs.specs.declared.rule_step.RStep.{RStep}
use Rattle.sap_translate.specs.relation.Agents.{Agent, unborn}
use Rattle.sap_translate.specs.relation.Answers.{widened}
use Rattle.sap_translate.specs.relation.Envs.{just, join}
use Rattle.sap_back.proofs.Effects.{Effect, IsContinued}
use Rattle.sap_back.proofs.TabledEntries as entries
use Rattle.sap_back.proofs.TabledPiles as piles
use Rattle.sap_back.proofs.TabledThreads as threads
use Rattle.sap_back.specs.Followed.{IsWrittenAsProcess, IsFollowedBy, BeginsTabled}
use Rattle.sap_process_lines.specs.Tables.{ProcessTables}
use Rattle.sap_back.specs.Tables.{AreProcessTables}

module _ (g : Sig) (agents : List (Option Agent)) (pending : Option Tree) (c : Config) (es : List Tree) (s : RuleState) (tables : ProcessTables) (old : AreProcessTables agents pending c es s tables) (z : RuleState) (d : Config) (fs : List Tree) where
  pub tables_behind : {step : RStep} {acts : List Fact} {more : List PStep} {next : List (Option Agent)} {later : Option Tree} {behind : ProcessTables} (w : IsWrittenAsProcess g agents pending s tables step acts more next later behind) → Effect w z c es d fs → AreProcessTables next later d fs z behind
  tables_behind (IsWrittenAsProcess.starts t body b e first) h = threads.starts g agents pending c es s tables old z d fs t body e h.0 h.1
  tables_behind (IsWrittenAsProcess.ends t k path env b seat) h = threads.ends g agents pending c es s tables old z d fs t k path env whole.nil seat h.0 h.1
  tables_behind (IsWrittenAsProcess.splits t k path env b p q seat) h = threads.splits g agents pending c es s tables old z d fs t k path env (whole.parallel p q) p q seat h.0 h.1
  tables_behind (IsWrittenAsProcess.starts_copies t k path env b p seat) h = threads.starts_copies g agents pending c es s tables old z d fs t k path env p seat h.0 h.1
  tables_behind (IsWrittenAsProcess.copies t k path env b p seat number) h = threads.copies g agents pending c es s tables old z d fs k path env p h.0 h.1
  tables_behind (IsWrittenAsProcess.makes_name t k j n path env b x p seat is number) h =
      threads.goes_first g agents pending c es s tables old z d fs t k (j ∷ []) path env (join env (just (fresh_var x) (fresh n))) (act (action.new x) p) p (fr_fact n ∷ []) seat h.0 h.1 pending tables.pending old.waits
  tables_behind (IsWrittenAsProcess.outputs t k path env b m p seat) h = threads.sends_first g agents pending c es s tables old z d fs t k [] path env (act (action.out m) p) p [] h.0 seat h.1 h.2 pending tables.pending old.waits
  tables_behind (IsWrittenAsProcess.outputs_on t k j e path env b m n p seat waits) h = threads.sends_first g agents pending c es s tables old z d fs t k (j ∷ []) path env (act (action.send m n) p) p (h.1.0 ∷ []) h.0 seat h.1.1 h.2 None None refl
  tables_behind (IsWrittenAsProcess.sends t k j i path env b m n x v p seat f o) h = threads.sends_message g agents pending c es s tables old z d fs t k j path env (act (action.send m n) p) m n x v p i h.0.0 seat h.0.1 h.1
  tables_behind (IsWrittenAsProcess.goes_on t k j n path env b m u p is fact number) h = threads.acknowledged g agents pending c es s tables old z d fs t k j n path env m u p is number h.1 h.0 h.2
  tables_behind (IsWrittenAsProcess.inputs t k j e path env b m σ p seat waits) h = threads.goes_first g agents pending c es s tables old z d fs t k (j ∷ []) path env (widened env σ (tree_vars m)) (act (action.input m) p) p (h.0.0 ∷ []) seat h.0.1 h.1 None None refl
  tables_behind (IsWrittenAsProcess.inputs_on t k j e path env b m n σ p seat waits) h = threads.goes_first g agents pending c es s tables old z d fs t k (j ∷ []) path env (widened env σ (tree_vars n)) (act (action.receive m n) p) p (h.0.0 ∷ []) seat h.0.1 h.1 None None refl
  tables_behind (IsWrittenAsProcess.meets a t k j n at path other env b m u x v l r σ p q is fact number seat) h =
      threads.meets g agents pending c es s tables old z d fs a t k j n at path other env (widened env σ (tree_vars r)) m u x v p q (act (action.receive l r) q) is number seat h.0 h.1
  tables_behind (IsWrittenAsProcess.shows t k path env b f p seat) h = threads.goes_first g agents pending c es s tables old z d fs t k [] path env env (act (action.event f) p) p [] seat h.0 h.1 None None refl
  tables_behind (IsWrittenAsProcess.inserts t k path env b m n p seat) h = threads.goes_first g agents pending c es s tables old z d fs t k [] path env env (act (action.insert m n) p) p [] seat h.0 h.1 pending tables.pending old.waits
  tables_behind (IsWrittenAsProcess.deletes t k path env b m p seat) h = threads.goes_first g agents pending c es s tables old z d fs t k [] path env env (act (action.delete m) p) p [] seat h.0 h.1 pending tables.pending old.waits
  tables_behind (IsWrittenAsProcess.locks t k j n path env b m l p seat) h =
      threads.goes_first g agents pending c es s tables old z d fs t k (j ∷ []) path env (join env (just (lock_var l) (fresh n))) (act (action.lock m l) p) p (h.0.0 ∷ []) seat h.0.1 h.1 pending tables.pending old.waits
  tables_behind (IsWrittenAsProcess.unlocks t k path env b m l p seat) h = threads.goes_first g agents pending c es s tables old z d fs t k [] path env env (act (action.unlock m l) p) p [] seat h.0 h.1 pending tables.pending old.waits
  tables_behind (IsWrittenAsProcess.agrees t k path env b m n p q seat) h = threads.goes_first g agents pending c es s tables old z d fs t k [] path env env (whole.test m n p q) p [] seat h.0 h.1 pending tables.pending old.waits
  tables_behind (IsWrittenAsProcess.differs t k path env b m n p q seat) h = threads.goes_second g agents pending c es s tables old z d fs t k [] path env env (whole.test m n p q) q [] seat h.0 h.1 pending tables.pending old.waits
  tables_behind (IsWrittenAsProcess.finds t k path env b m v y p q seat) h =
      threads.goes_first g agents pending c es s tables old z d fs t k [] path env (join env (just (message_var y) v)) (whole.lookup m y p q) p [] seat h.0 h.1 pending tables.pending old.waits
  tables_behind (IsWrittenAsProcess.misses t k path env b m y p q seat) h = threads.goes_second g agents pending c es s tables old z d fs t k [] path env env (whole.lookup m y p q) q [] seat h.0 h.1 pending tables.pending old.waits
  tables_behind (IsWrittenAsProcess.embeds {acts = acts} t k js ks path env b l a o σ p seat numbers) h =
      piles.embeds g agents pending c es s tables old z d fs t k js ks path env (widened env σ (facts_vars (l ++ (a ++ o)))) (act (action.embedded l a o) p) p o acts seat numbers h
  tables_behind (IsWrittenAsProcess.makes n) h = entries.makes g agents pending c es s tables old z d fs n h.0 h.1
  tables_behind (IsWrittenAsProcess.learns k e number) h = entries.learns g agents pending c es s tables old z d fs k e h.0 h.1 number h.2 h.3 h.4
  tables_behind (IsWrittenAsProcess.owns k n is number) h = entries.owns g agents pending c es s tables old z d fs k n h.0 h.1 h.2 h.3
  tables_behind (IsWrittenAsProcess.writes a) h = entries.writes g agents pending c es s tables old z d fs (public a) h.0 h.1
  tables_behind (IsWrittenAsProcess.applies f ks js is) h = entries.writes g agents pending c es s tables old z d fs h.0 h.1 h.2
  tables_behind (IsWrittenAsProcess.knows k e x entry number) h = entries.knows g agents pending c es s tables old z d fs k e x entry number h.0 h.1

-- all that the law of single lines says
pub followed_tabled : (g : Sig) (W : Tree → Type 0) (start : Proc) (agents : List (Option Agent)) (pending : Option Tree) (lines : List PStep) (c : Config) (es : List Tree) (s : RuleState) (full : Trace) (tables : ProcessTables) (step : RStep) (z : RuleState) (acts : List Fact)
    → AreProcessTables agents pending c es s tables → IsContinued g W start agents pending lines c es s full tables step z acts → IsFollowedBy g W start agents pending lines s full tables step z acts
followed_tabled g W start agents pending lines c es s full tables step z acts old h = record {
  more = h.more;
  next = h.next;
  later = h.later;
  behind = h.behind;
  written = h.written;
  config = h.config;
  entries = h.entries;
  trace = h.trace;
  is = h.is;
  tabled = tables_behind g agents pending c es s tables old z h.config h.entries h.written h.effect;
}

-- before the first line
pub begins_tabled : (start : Proc) → BeginsTabled start
begins_tabled start = record {
  owners = λ k t f control e n. absurd (cc);
  apart = λ k j t f control e h n m. absurd (cc);
  piles = λ k j f user e n. absurd (cc);
  pile_apart = λ k i j f h user free e o n m. absurd (cc);
  sent = λ k e x i n. absurd (cc);
  made = λ k n x i j. absurd (cc);
  entries = λ k e i. absurd (cc);
  waits = refl;
  unborn = first;
  all_facts = refl;
  all_entries = refl;
  threads = refl;
  known = refl;
  piled = refl;
}
  where
    first : (t : ℕ) (body : Proc) → slice_get (Some (unborn start) ∷ []) t ≡ Some (Some (unborn body)) → t ≡ 0
    first zero body e = refl
    first (suc t) body e = absurd (cc)
