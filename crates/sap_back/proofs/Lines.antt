-- Each move of a process is written by a line.
use Rattle.std.proofs.Common.{◌≡◌, ℕ, List, [], ◌∷◌, ◌++◌, Some, refl, sym, ◌∙◌, subst, inl, inr, slice_get, append-nil}
use Rattle.std.specs.Prelude.{Contains}
use Rattle.sap_terms.specs.AdversaryFacts.{k_fact}
use Rattle.sap_terms.specs.Equations.{equations}
use Rattle.sap_terms.specs.Modulo.{instance_facts}
use Rattle.sap_terms.specs.Normal.{IsNormalForm}
use Rattle.sap_terms.specs.Signature.{Sig}
use Rattle.sap_terms.specs.Tree.{Tree}
use Rattle.sap_terms.specs.declared.binding.Binding.{Binding}
use Rattle.sap_terms.specs.declared.fact.Fact.{Fact}
use Rattle.sap_terms.proofs.PlainLaws.Items.{got_contained, cons_cases, first_item, later_item}
use Rattle.sap_rewrite.specs.Laws.{FormIsOne, FormsDecide}
use Rattle.sap_rewrite.specs.Match.{Agrees, bound_vars}
use Rattle.sap_process.specs.Action as action
use Rattle.sap_process.specs.Configuration.{Config, Runs}
use Rattle.sap_process.specs.Heads.{facts_terms}
use Rattle.sap_process.specs.Proc as whole
use Rattle.sap_process.specs.Proc.{Proc, act}
use Rattle.sap_process.specs.ProcessSteps.{ProcessStep}
use Rattle.sap_runs.specs.Inner.{InnerAction, equal, different, found, missing, inserted, deleted, locked, unlocked}
use Rattle.sap_runs.specs.declared.process_step.PStep.{PStep}
use Rattle.sap_runs.specs.declared.process_step.PStep.TheVariants as line
use Rattle.sap_lines.specs.Lines.{IsProcessLine, EvaluateWithin, left_open}
use Rattle.sap_translate.specs.relation.ProcessMoves as move
use Rattle.sap_translate.specs.relation.ProcessMoves.{ProcessMove, IsProcessMove, process_move}

-- the term has this normal form
abbrev pub Form : Sig → Tree → Tree → Type 0
Form g t n = IsNormalForm (equations g) t n

-- what the move does inside, where its thread runs this process; what it evaluates is within the limit
abbrev pub Does : Sig → (Tree → Type 0) → Config → List Binding → ProcessMove → Proc → List InnerAction → Type 0
Does g W c b (move.outputs t) (act (action.out m) p) inner = EvaluateWithin g W (m ∷ []) × (inner ≡ [])
Does g W c b (move.outputs_on t) (act (action.send m n) p) inner = EvaluateWithin g W (m ∷ n ∷ []) × (inner ≡ [])
Does g W c b (move.inputs_on t σ) (act (action.receive m n) p) inner = EvaluateWithin g W (m ∷ []) × (inner ≡ [])
Does g W c b (move.agrees t) (whole.test m n p q) inner = (x : Tree) × (y : Tree) × Form g m x × Form g n y × EvaluateWithin g W (m ∷ n ∷ []) × (inner ≡ equal x y ∷ [])
Does g W c b (move.differs t) (whole.test m n p q) inner = (x : Tree) × (y : Tree) × Form g m x × Form g n y × EvaluateWithin g W (m ∷ n ∷ []) × (inner ≡ different x y ∷ [])
Does g W c b (move.shows t) (act (action.event f) p) inner = EvaluateWithin g W f.args × (inner ≡ [])
Does g W c b (move.inserts t) (act (action.insert m n) p) inner = (x : Tree) × (y : Tree) × Form g m x × Form g n y × EvaluateWithin g W (m ∷ n ∷ []) × (inner ≡ inserted x y ∷ [])
Does g W c b (move.deletes t) (act (action.delete m) p) inner = (x : Tree) × Form g m x × EvaluateWithin g W (m ∷ []) × (inner ≡ deleted x ∷ [])
Does g W c b (move.finds t) (whole.lookup m y p q) inner = (x : Tree) × (v : Tree) × Form g m x × ((k w : Tree) → Form g m k → c.store k ≡ Some w → v ≡ w) × EvaluateWithin g W (m ∷ []) × (inner ≡ found x v ∷ [])
Does g W c b (move.misses t) (whole.lookup m y p q) inner = (x : Tree) × Form g m x × EvaluateWithin g W (m ∷ []) × (inner ≡ missing x ∷ [])
Does g W c b (move.locks t) (act (action.lock m i) p) inner = (x : Tree) × Form g m x × EvaluateWithin g W (m ∷ []) × (inner ≡ locked x ∷ [])
Does g W c b (move.unlocks t) (act (action.unlock m i) p) inner = (x : Tree) × Form g m x × EvaluateWithin g W (m ∷ []) × (inner ≡ unlocked x ∷ [])
Does g W c b (move.embeds t ks σ) (act (action.embedded l e r) p) inner =
    (bound_vars b ≡ left_open l e r) × Agrees b σ × EvaluateWithin g W (facts_terms (instance_facts σ (l ++ (e ++ r)))) × (inner ≡ [])
Does g W c b m p inner = inner ≡ []

-- the thread that moves; of the adversary's moves, none that counts
abbrev pub thread_of : ProcessMove → ℕ
thread_of (move.ends t) = t
thread_of (move.splits t) = t
thread_of (move.copies t) = t
thread_of (move.makes_name t n) = t
thread_of (move.outputs t) = t
thread_of (move.outputs_on t) = t
thread_of (move.inputs t σ) = t
thread_of (move.inputs_on t σ) = t
thread_of (move.meets s t σ) = s
thread_of (move.agrees t) = t
thread_of (move.differs t) = t
thread_of (move.shows t) = t
thread_of (move.inserts t) = t
thread_of (move.deletes t) = t
thread_of (move.finds t) = t
thread_of (move.misses t) = t
thread_of (move.locks t) = t
thread_of (move.unlocks t) = t
thread_of (move.embeds t ks σ) = t
thread_of (move.adversary_makes n) = 0
thread_of (move.knows x) = 0

-- what the move does inside, whatever its thread runs; for a meeting, what both run. None of a name of the adversary's, which is an
-- entry though nothing is sent.
abbrev pub Heads : Sig → (Tree → Type 0) → Config → List Binding → ProcessMove → List InnerAction → Type 0
Heads g W c b (move.meets s t σ) inner =
    (inner ≡ []) × ((m n l r : Tree) (p q : Proc) → Runs c s (act (action.send m n) p) → Runs c t (act (action.receive l r) q) → EvaluateWithin g W (m ∷ n ∷ l ∷ []))
Heads g W c b (move.adversary_makes n) inner = ⊥
Heads g W c b (move.knows x) inner = inner ≡ []
Heads g W c b m inner = (p : Proc) → Runs c (thread_of m) p → Does g W c b m p inner

-- the line for a move, with the number of an entry and bindings
abbrev pub line_for : ℕ → List Binding → ProcessMove → PStep
line_for e b (move.ends t) = line.Nil t
line_for e b (move.splits t) = line.Par t
line_for e b (move.copies t) = line.Rep t
line_for e b (move.makes_name t n) = line.New t n
line_for e b (move.outputs t) = line.Out t
line_for e b (move.outputs_on t) = line.Send t e
line_for e b (move.inputs t σ) = line.In t e
line_for e b (move.inputs_on t σ) = line.In t e
line_for e b (move.meets s t σ) = line.Sync s t
line_for e b (move.agrees t) = line.Then t
line_for e b (move.differs t) = line.Else t
line_for e b (move.shows t) = line.Event t
line_for e b (move.inserts t) = line.Insert t
line_for e b (move.deletes t) = line.Delete t
line_for e b (move.finds t) = line.Found t
line_for e b (move.misses t) = line.Missing t
line_for e b (move.locks t) = line.Lock t
line_for e b (move.unlocks t) = line.Unlock t
line_for e b (move.embeds t ks σ) = line.Embedded t ks b
line_for e b (move.adversary_makes n) = line.Name n
line_for e b (move.knows x) = line.Know e

-- the entries behind are those before, and what was sent
pub record Grows (c : Config) (es : List Tree) (d : Config) (fs : List Tree) : Type 0 where
  pub come : List Tree
  pub entries : fs ≡ es ++ come
  pub frame : d.frame ≡ c.frame ++ come

-- the line for a move, with this entry where it takes one, and the entries behind it: those before, and what was sent
pub record LineOf (g : Sig) (W : Tree → Type 0) (c : Config) (es : List Tree) (entry : ℕ) (b : List Binding) (m : ProcessMove) (inner : List InnerAction) (label : List Fact) (d : Config) : Type 0 where
  pub entries : List Tree
  pub is : IsProcessLine g W c es (line_for entry b m) inner label d entries
  pub grows : Grows c es d entries
  pub keeps : (x : Tree) → Contains es x → Contains entries x
  pub sent : ((x : Tree) → Contains c.frame x → Contains es x) → (x : Tree) → Contains d.frame x → Contains entries x

pub in_front : {A : Type 0} (xs ys : List A) (x : A) → Contains xs x → Contains (xs ++ ys) x
in_front [] ys x h = absurd (let k = (got_contained [] x h).1 in cc)
in_front (z ∷ xs) ys x h = elim (cons_cases z xs x h) [ inl e ↦ subst (λ w. Contains (z ∷ (xs ++ ys)) w) e (first_item z (xs ++ ys)) | inr k ↦ later_item z (xs ++ ys) x (in_front xs ys x k) ]

pub at_end : {A : Type 0} (xs : List A) (x : A) → Contains (xs ++ x ∷ []) x
at_end [] x = first_item x []
at_end (z ∷ xs) x = later_item z (xs ++ x ∷ []) x (at_end xs x)

-- an item of a list with one more at its end
pub pushed_cases : {A : Type 0} (xs : List A) (y : A) (P : A → Type 0) → ((x : A) → Contains xs x → P x) → P y → (x : A) → Contains (xs ++ y ∷ []) x → P x
pushed_cases [] y P all h x m = elim (cons_cases y [] x m) [ inl e ↦ subst P e h | inr k ↦ absurd (let i = (got_contained [] x k).1 in cc) ]
pushed_cases (z ∷ xs) y P all h x m = elim (cons_cases z (xs ++ y ∷ []) x m) [
  | inl e ↦ subst P e (all z (first_item z xs))
  | inr k ↦ pushed_cases xs y P (λ w n. all w (later_item z xs w n)) h x k
]

sent_more : (frame es : List Tree) (y : Tree) → ((x : Tree) → Contains frame x → Contains es x) → (x : Tree) → Contains (frame ++ y ∷ []) x → Contains (es ++ y ∷ []) x
sent_more frame es y h x m = pushed_cases frame y (λ z. Contains (es ++ y ∷ []) z) (λ z k. in_front es (y ∷ []) z (h z k)) (at_end es y) x m

module _ (one : FormIsOne) (decide : FormsDecide) (g : Sig) (W : Tree → Type 0) (c : Config) (es : List Tree) (entry : ℕ) (b : List Binding) where
  -- where the inner actions are these, and nothing is sent
  does : (m : ProcessMove) (inner known : List InnerAction) (label : List Fact) (d : Config) → inner ≡ known → d.frame ≡ c.frame → IsProcessLine g W c es (line_for entry b m) known label d es → LineOf g W c es entry b m inner label d
  does m inner known label d e f is = record {
    entries = es;
    is = subst (λ i. IsProcessLine g W c es (line_for entry b m) i label d es) (sym e) is;
    grows = record { come = []; entries = sym (append-nil es); frame = f ∙ sym (append-nil c.frame) };
    keeps = λ x k. k;
    sent = λ h x k. h x (subst (λ z. Contains z x) f k);
  }

  -- one more entry comes
  plus : (m : ProcessMove) (inner : List InnerAction) (label : List Fact) (d : Config) (y : Tree) → inner ≡ [] → d.frame ≡ c.frame ++ y ∷ [] → IsProcessLine g W c es (line_for entry b m) [] label d (es ++ y ∷ []) → LineOf g W c es entry b m inner label d
  plus m inner label d y e f is = record {
    entries = es ++ y ∷ [];
    is = subst (λ i. IsProcessLine g W c es (line_for entry b m) i label d (es ++ y ∷ [])) (sym e) is;
    grows = record { come = y ∷ []; entries = refl; frame = f };
    keeps = λ x i. in_front es (y ∷ []) x i;
    sent = λ h x i. sent_more c.frame es y h x (subst (λ z. Contains z x) f i);
  }

  pub line_of : (inner : List InnerAction) {label : List Fact} {d : Config} (step : ProcessStep g c label d) → Heads g W c b (process_move step) inner → ((x : Tree) → label ≡ k_fact x ∷ [] → slice_get es entry ≡ Some x) → LineOf g W c es entry b (process_move step) inner label d
  line_of inner (ProcessStep.ends t e) h given = does (move.ends t) inner [] [] _ (h _ e) refl (IsProcessLine.ends t e)
  line_of inner (ProcessStep.splits t e) h given = does (move.splits t) inner [] [] _ (h _ e) refl (IsProcessLine.splits t e)
  line_of inner (ProcessStep.copies t e) h given = does (move.copies t) inner [] [] _ (h _ e) refl (IsProcessLine.copies t e)
  line_of inner (ProcessStep.makes_name t n e u) h given = does (move.makes_name t n) inner [] [] _ (h _ e) refl (IsProcessLine.makes_name t n e u)
  line_of inner (ProcessStep.outputs {n = n} t e f) h given = let a = h _ e in plus (move.outputs t) inner [] _ n a.1 refl (IsProcessLine.outputs t e f a.0)
  line_of inner (ProcessStep.outputs_on {k = k} {u = u} t e f can i) h given =
      let a = h _ e in
      plus (move.outputs_on t) inner (k_fact k ∷ []) _ u a.1 refl (IsProcessLine.outputs_on t entry e (given k refl) f i a.0)
  line_of inner (ProcessStep.inputs {x = x} t σ e can k) h given =
      does (move.inputs t σ) inner [] (k_fact x ∷ []) _ (h _ e) refl (IsProcessLine.inputs t entry σ e (given x refl) k)
  line_of inner (ProcessStep.inputs_on {x = x} t σ e can k i) h given =
      let a = h _ e in
      does (move.inputs_on t σ) inner [] (k_fact x ∷ []) _ a.1 refl (IsProcessLine.inputs_on t entry σ e (given x refl) k i a.0)
  line_of inner (ProcessStep.meets {m = m} {n = n} {l = l} {r = r} {p = p} {q = q} s t σ e f i k) h given =
      does (move.meets s t σ) inner [] [] _ h.0 refl (IsProcessLine.meets s t σ e f i k (h.1 m n l r p q e f))
  line_of inner (ProcessStep.agrees {m = m} {n = n} t e i) h given =
      let a = h _ e in
      does (move.agrees t) inner (equal a.0 a.1 ∷ []) [] _ a.5 refl (IsProcessLine.agrees t e a.2 a.3 ((decide (equations g) m n a.0 a.1 a.2 a.3).0 i) a.4)
  line_of inner (ProcessStep.differs {m = m} {n = n} t e i) h given =
      let a = h _ e in
      does (move.differs t) inner (different a.0 a.1 ∷ []) [] _ a.5 refl (IsProcessLine.differs t e a.2 a.3 (λ same. i ((decide (equations g) m n a.0 a.1 a.2 a.3).1 same)) a.4)
  line_of inner (ProcessStep.shows {h = shown} t e f) h given = let a = h _ e in does (move.shows t) inner [] (shown ∷ []) _ a.1 refl (IsProcessLine.shows t e f a.0)
  line_of inner (ProcessStep.inserts {m = m} {n = n} {k = k} {v = v} t e f i) h given =
      let a = h _ e in
      let key : a.0 ≡ k = one (equations g) m a.0 k a.2 f in
      let value : a.1 ≡ v = one (equations g) n a.1 v a.3 i in
      does (move.inserts t) inner (inserted k v ∷ []) [] _ (a.5 ∙ (λ j. inserted (key j) (value j) ∷ [])) refl (IsProcessLine.inserts t e f i a.4)
  line_of inner (ProcessStep.deletes {m = m} {k = k} t e f) h given =
      let a = h _ e in
      let key : a.0 ≡ k = one (equations g) m a.0 k a.1 f in
      does (move.deletes t) inner (deleted k ∷ []) [] _ (a.3 ∙ (λ j. deleted (key j) ∷ [])) refl (IsProcessLine.deletes t e f a.2)
  line_of inner (ProcessStep.finds {m = m} {k = k} {v = v} t e f i) h given =
      let a = h _ e in
      let key : a.0 ≡ k = one (equations g) m a.0 k a.2 f in
      let value : a.1 ≡ v = a.3 k v f i in
      does (move.finds t) inner (found k v ∷ []) [] _ (a.5 ∙ (λ j. found (key j) (value j) ∷ [])) refl (IsProcessLine.finds t e f i a.4)
  line_of inner (ProcessStep.misses {m = m} {k = k} t e f i) h given =
      let a = h _ e in
      let key : a.0 ≡ k = one (equations g) m a.0 k a.1 f in
      does (move.misses t) inner (missing k ∷ []) [] _ (a.3 ∙ (λ j. missing (key j) ∷ [])) refl (IsProcessLine.misses t e f i a.2)
  line_of inner (ProcessStep.locks {m = m} {k = k} t e f i) h given =
      let a = h _ e in
      let key : a.0 ≡ k = one (equations g) m a.0 k a.1 f in
      does (move.locks t) inner (locked k ∷ []) [] _ (a.3 ∙ (λ j. locked (key j) ∷ [])) refl (IsProcessLine.locks t e f i a.2)
  line_of inner (ProcessStep.unlocks {m = m} {k = k} t e f) h given =
      let a = h _ e in
      let key : a.0 ≡ k = one (equations g) m a.0 k a.1 f in
      does (move.unlocks t) inner (unlocked k ∷ []) [] _ (a.3 ∙ (λ j. unlocked (key j) ∷ [])) refl (IsProcessLine.unlocks t e f a.2)
  line_of inner (ProcessStep.embeds t ks σ left acts right e m k i j n) h given =
      let a = h _ e in
      does (move.embeds t ks σ) inner [] acts _ a.3 refl (IsProcessLine.embeds t ks b σ left acts right e m a.0 a.1 k i j n a.2)
  line_of inner (ProcessStep.adversary_makes n u) h given = absurd h
  line_of inner (ProcessStep.knows x can) h given = does (move.knows x) inner [] (k_fact x ∷ []) _ h refl (IsProcessLine.knows entry x (given x refl))
