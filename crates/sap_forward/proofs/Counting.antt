-- How many lines stand opposite to one another.
use Rattle.std.proofs.Common.{◌≡◌, ℕ, zero, suc, ◌+◌, false, ◌||◌, List, [], ◌∷◌, ◌++◌, Option, Some, None, refl, sym, ap, ◌∙◌, subst, arith, length, slice_get, slice_set}
use Rattle.std.specs.Prelude.{if◌then◌else◌}
use Rattle.sap_terms.specs.Signature.{Sig}
use Rattle.sap_process.specs.Configuration.{Config}
use Rattle.sap_process.specs.Proc.{Proc}
use Rattle.sap_runs.specs.declared.process_step.PStep.{PStep}
use Rattle.sap_runs.specs.declared.rule_step.RStep.{RStep}
use Rattle.sap_translate.specs.LineCounts.{back_count}
use Rattle.sap_templates.specs.Templates.{first_of}
use Rattle.sap_translate.specs.relation.Agents.{Agent, running, copying}
use Rattle.sap_translate.specs.relation.Envs.{Env, no_env}
use Rattle.sap_forward.specs.Counted.{lines_for, lines_for_all, copying_behind, all_copying}
use Rattle.sap_rule_lines.specs.Least.{is_among}
use Rattle.sap_forward.specs.Tables.{RuleTables}
use Rattle.sap_forward.specs.Written.{IsWrittenAsRules}
use Rattle.sap_forward.specs.code.Begun.{has_started, AreCopying}
use Rattle.sap_forward.proofs.Given.{cases, same, apart}
use Rattle.sap_forward.proofs.Tabled.{get_set, get_other, length_join}

-- what one line adds
pub record IsCount (ts : List ℕ) (step : PStep) (lines : List RStep) (later : List (Option Agent)) : Type 0 where
  pub counted : length lines + length ts ≡ lines_for step + length (copying_behind ts step)
  pub copying : AreCopying (copying_behind ts step) later
  pub back : back_count lines ≡ 1

-- a thread that is set and hasn't started
set_there : (agents : List (Option Agent)) (t : ℕ) (o : Option Agent) → has_started (Some o) ≡ false → has_started (slice_get (slice_set agents t o) t) ≡ false
set_there [] t o h = refl
set_there (a ∷ agents) zero o h = h
set_there (a ∷ agents) (suc t) o h = set_there agents t o h

set_one : (ts : List ℕ) (agents : List (Option Agent)) (t : ℕ) (o : Option Agent) → AreCopying ts agents → is_among ts t ≡ false → has_started (Some o) ≡ false → AreCopying ts (slice_set agents t o)
set_one ts agents t o h none new i = elim (cases t i) [
  | same e is ↦ subst (λ n. is_among ts n ≡ has_started (slice_get (slice_set agents t o) n)) is (none ∙ sym (set_there agents t o new))
  | apart e differ ↦ h i ∙ ap has_started (sym (get_other agents t i o differ))
]

push_there : (agents : List (Option Agent)) (o : Option Agent) (i : ℕ) → has_started (Some o) ≡ false → has_started (slice_get (agents ++ o ∷ []) i) ≡ has_started (slice_get agents i)
push_there [] o zero h = h
push_there [] o (suc i) h = refl
push_there (a ∷ agents) o zero h = refl
push_there (a ∷ agents) o (suc i) h = push_there agents o i h

push_one : (ts : List ℕ) (agents : List (Option Agent)) (o : Option Agent) → AreCopying ts agents → has_started (Some o) ≡ false → AreCopying ts (agents ++ o ∷ [])
push_one ts agents o h new i = h i ∙ sym (push_there agents o i new)

start_one : (ts : List ℕ) (agents : List (Option Agent)) (t : ℕ) (path : List ℕ) (env : Env) (p : Proc) (x : Option Agent) → AreCopying ts agents → slice_get agents t ≡ Some x → AreCopying (t ∷ ts) (slice_set agents t (Some (copying path env p)))
start_one ts agents t path env p x h there i = elim (cases t i) [
  | same e is ↦ ap (λ b. b || is_among ts i) e ∙ sym (ap has_started (ap (slice_get (slice_set agents t (Some (copying path env p)))) (sym is) ∙ get_set agents t x (Some (copying path env p)) there))
  | apart e differ ↦ ap (λ b. b || is_among ts i) e ∙ h i ∙ ap has_started (sym (get_other agents t i (Some (copying path env p)) differ))
]

-- a thread that runs hasn't started copying
none : (ts : List ℕ) (agents : List (Option Agent)) (t : ℕ) (path : List ℕ) (env : Env) (p : Proc) → AreCopying ts agents → slice_get agents t ≡ Some (Some (running path env p)) → is_among ts t ≡ false
none ts agents t path env p h is = h t ∙ ap has_started is

module _ {g : Sig} {drawn : List ℕ} {agents : List (Option Agent)} {c : Config} {tables : RuleTables} (ts : List ℕ) (h : AreCopying ts agents) where
  pub counts : {step : PStep} {lines : List RStep} {later : List (Option Agent)} {behind : RuleTables} → IsWrittenAsRules g drawn agents c tables step lines later behind → IsCount ts step lines later
  counts (IsWrittenAsRules.ends t k path env sits) = record { counted = refl; copying = set_one ts agents t None h (none ts agents t path env _ h sits.thread) refl; back = refl }
  counts (IsWrittenAsRules.splits t k path env p q sits) = record { counted = refl; copying = push_one ts _ _ (set_one ts agents t _ h (none ts agents t path env _ h sits.thread) refl) refl; back = refl }
  counts (IsWrittenAsRules.copies_first t k path env p sits) =
      let new : (if is_among ts t then ts else t ∷ ts) ≡ t ∷ ts = ap (λ b. if b then ts else t ∷ ts) (none ts agents t path env _ h sits.thread) in
      record {
        counted = let n = ap length new in omega arith;
        copying = subst (λ x. AreCopying x (slice_set agents t (Some (copying path env p)) ++ Some (running (first_of path) env p) ∷ [])) (sym new) (push_one (t ∷ ts) _ _ (start_one ts agents t path env p _ h sits.thread) refl);
        back = refl;
      }
  counts (IsWrittenAsRules.copies_more t k path env p sits) =
      let old : (if is_among ts t then ts else t ∷ ts) ≡ ts = ap (λ b. if b then ts else t ∷ ts) (h t ∙ ap has_started sits.thread) in
      record {
        counted = let n = ap length old in omega arith;
        copying = subst (λ x. AreCopying x (agents ++ Some (running (first_of path) env p) ∷ [])) (sym old) (push_one ts agents _ h refl);
        back = refl;
      }
  counts (IsWrittenAsRules.makes_name t k n path env x p sits) = record { counted = refl; copying = set_one ts agents t _ h (none ts agents t path env _ h sits.thread) refl; back = refl }
  counts (IsWrittenAsRules.outputs t k path env m p sits) = record { counted = refl; copying = set_one ts agents t _ h (none ts agents t path env _ h sits.thread) refl; back = refl }
  counts (IsWrittenAsRules.outputs_on t k j path env m n p sits) = record { counted = refl; copying = set_one ts agents t _ h (none ts agents t path env _ h sits.thread) refl; back = refl }
  counts (IsWrittenAsRules.inputs t k j path env m σ p sits) = record { counted = refl; copying = set_one ts agents t _ h (none ts agents t path env _ h sits.thread) refl; back = refl }
  counts (IsWrittenAsRules.inputs_on t k j path env m n σ p sits) = record { counted = refl; copying = set_one ts agents t _ h (none ts agents t path env _ h sits.thread) refl; back = refl }
  counts (IsWrittenAsRules.meets a b j k n path at env other m u l r σ p q sits sits_too next) = record { counted = refl; copying = set_one ts _ a _ (set_one ts agents b _ h (none ts agents b at other _ h sits_too.thread) refl) (none ts agents a path env _ h sits.thread) refl; back = refl }
  counts (IsWrittenAsRules.agrees t k path env m n p q sits) = record { counted = refl; copying = set_one ts agents t _ h (none ts agents t path env _ h sits.thread) refl; back = refl }
  counts (IsWrittenAsRules.differs t k path env m n p q sits) = record { counted = refl; copying = set_one ts agents t _ h (none ts agents t path env _ h sits.thread) refl; back = refl }
  counts (IsWrittenAsRules.shows t k path env f p sits) = record { counted = refl; copying = set_one ts agents t _ h (none ts agents t path env _ h sits.thread) refl; back = refl }
  counts (IsWrittenAsRules.inserts t k path env m n p sits) = record { counted = refl; copying = set_one ts agents t _ h (none ts agents t path env _ h sits.thread) refl; back = refl }
  counts (IsWrittenAsRules.deletes t k path env m p sits) = record { counted = refl; copying = set_one ts agents t _ h (none ts agents t path env _ h sits.thread) refl; back = refl }
  counts (IsWrittenAsRules.finds t k path env m x v y b p q sits form held var term) = record { counted = refl; copying = set_one ts agents t _ h (none ts agents t path env _ h sits.thread) refl; back = refl }
  counts (IsWrittenAsRules.misses t k path env m y p q sits) = record { counted = refl; copying = set_one ts agents t _ h (none ts agents t path env _ h sits.thread) refl; back = refl }
  counts (IsWrittenAsRules.locks t k n path env m l p sits next) = record { counted = refl; copying = set_one ts agents t _ h (none ts agents t path env _ h sits.thread) refl; back = refl }
  counts (IsWrittenAsRules.unlocks t k path env m l p sits) = record { counted = refl; copying = set_one ts agents t _ h (none ts agents t path env _ h sits.thread) refl; back = refl }
  counts (IsWrittenAsRules.embeds t k ks js b path env l e r σ p sits cited) = record { counted = refl; copying = set_one ts agents t _ h (none ts agents t path env _ h sits.thread) refl; back = refl }
  counts (IsWrittenAsRules.names n) = record { counted = refl; copying = h; back = refl }
  counts (IsWrittenAsRules.writes a) = record { counted = refl; copying = h; back = refl }
  counts (IsWrittenAsRules.applies f ks) = record { counted = refl; copying = h; back = refl }
  counts (IsWrittenAsRules.knows k) = record { counted = refl; copying = h; back = refl }

pub counted_join : (lines : List PStep) (step : PStep) → lines_for_all (lines ++ step ∷ []) ≡ lines_for_all lines + lines_for step
counted_join [] step = omega arith
counted_join (x ∷ lines) step = let h = counted_join lines step in omega arith

pub copying_join : (ts : List ℕ) (lines : List PStep) (step : PStep) → all_copying ts (lines ++ step ∷ []) ≡ copying_behind (all_copying ts lines) step
copying_join ts [] step = refl
copying_join ts (x ∷ lines) step = copying_join (copying_behind ts x) lines step

pub back_join : (lines more : List RStep) → back_count (lines ++ more) ≡ back_count lines + back_count more
back_join [] more = omega arith
back_join (x ∷ lines) more = let h = back_join lines more in omega arith

pub first_copying : (q : Proc) → AreCopying [] (Some (running [] no_env q) ∷ [])
first_copying q zero = refl
first_copying q (suc t) = refl

-- as many lines as are counted, one by one
pub grown : (lines : List PStep) (step : PStep) (rest more : List RStep) → length rest ≡ lines_for_all lines + length (all_copying [] lines)
    → length more + length (all_copying [] lines) ≡ lines_for step + length (copying_behind (all_copying [] lines) step) → length (rest ++ more) ≡ lines_for_all (lines ++ step ∷ []) + length (all_copying [] (lines ++ step ∷ []))
grown lines step rest more h k =
    let one = length_join rest more in
    let two = counted_join lines step in
    let three = ap length (copying_join [] lines step) in
    omega arith

pub back_grown : (lines : List PStep) (step : PStep) (rest more : List RStep) → back_count rest ≡ length lines → back_count more ≡ 1 → back_count (rest ++ more) ≡ length (lines ++ step ∷ [])
back_grown lines step rest more h k =
    let one = back_join rest more in
    let two = length_join lines (step ∷ []) in
    omega arith
