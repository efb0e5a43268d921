-- From the whole into the bodies of definitions.
use Rattle.std.proofs.Common.{◌≡◌, ◌<◌, ◌≤◌, ℕ, ◌-◌, ◌^◌, List, [], Option, None, Some, sym, ap, subst, ◌∙◌, arith}
use Rattle.std.specs.Prelude.{MatchOption}
use Rattle.sap_macro.specs.Expansion.{expansion}
use Rattle.sap_macro.specs.Indexed.{IsDefined, defined}
use Rattle.sap_macro.specs.Order.{AreInOrder, UsesOnly}
use Rattle.sap_macro.specs.Walked.{steps}
use Rattle.sap_macro.specs.Written.{Written, Definition}
use Rattle.sap_beyond.specs.Numbered.{IsFirstDeep, IsNumbered}
use Rattle.sap_beyond.specs.code.Shapes.{Shape, shape, shape_in, shaped, stands}
use Rattle.sap_beyond.specs.code.Steps.{AreKept, ComesTo, IsFound, Leads, Uses, extent, steps_at, steps_of, wanted_at}
use Rattle.sap_beyond.specs.declared.beyond.By.{By}
use Rattle.sap_beyond.specs.declared.beyond.By.TheVariants.{Number, Digits}
use Rattle.sap_beyond.specs.declared.beyond.Step.{Step}
use Rattle.sap_beyond.specs.declared.beyond.Step.TheVariants.{Past, Here, In}
use Rattle.sap_beyond.proofs.Indices.{taken_known}
use Rattle.sap_beyond.proofs.Kept.{body_shape, body_steps, body_uses}
use Rattle.sap_beyond.proofs.Numbered.{is_deep, is_numbered, not_deep, not_numbered}

-- what the law of shapes says
abbrev pub ShapesAreOne : Type 0
ShapesAreOne = (ds : List Definition) (p : Written) (identifiers : List (List ℕ)) → AreInOrder [] ds → UsesOnly (defined ds) p → shape (expansion ds identifiers p).process ≡ shape_in ds p

-- what a walk from a process tells of all definitions
abbrev LooksSo : By → List (List ℕ × ℕ) → List ℕ → Written → List ℕ → ℕ → List ℕ → Step → Type 0
LooksSo by index extents w from k to step =
    (c : List ℕ → Shape) (names : List (List ℕ)) → AreKept by c names index extents → UsesOnly names w → Leads by c from from (shaped c w) k to step

module _ (by : By) (ds : List Definition) (index : List (List ℕ × ℕ)) (extents : List ℕ) (kept : AreKept by (stands ds) (defined ds) index extents) where
  -- from the root
  begins : (w : Written) (k : ℕ) (to : List ℕ) (step : Step) → UsesOnly (defined ds) w → k < 2 ^ 64 - 1 → wanted_at step ≤ k → Uses w step
      → Leads by (stands ds) [] [] (shape_in ds w) k to step → ComesTo by ds (shape_in ds w) k to step
  begins w k to (Past left) only small less u h = h.0
  begins w k to Here only small less u h = h
  begins w k to (In f at left) only small less u h = (h.0, omega (arith, small, less), u.known (defined ds) only, h.1)

  pub begins_so : (w : Written) (k : ℕ) (to : List ℕ) (step : Step) → UsesOnly (defined ds) w → k < 2 ^ 64 - 1 → wanted_at step ≤ k → Uses w step → LooksSo by index extents w [] k to step
      → ComesTo by ds (shape_in ds w) k to step
  begins_so w k to step only small less u h = begins w k to step only small less u (h (stands ds) (defined ds) kept only)

  -- into a body
  goes_on : (s : Shape) (k : ℕ) (b : Shape) (w : Written) (from : List ℕ) (j : ℕ) (to : List ℕ) (step : Step) → UsesOnly (defined ds) w → j < 2 ^ 64 - 1 → wanted_at step ≤ j → Uses w step
      → Leads by (stands ds) from from b j to step → j < extent by b → ((path : List ℕ) → IsFound by from b j path → IsFound by [] s k path) → ComesTo by ds s k to step
  goes_on s k b w from j to (Past left) only small less u h within on =
      let past : extent by b ≤ j = h.0 in
      absurd (omega (arith, past, within))
  goes_on s k b w from j to Here only small less u h within on = on to h
  goes_on s k b w from j to (In f at left) only small less u h within on = (h.0, omega (arith, small, less), u.known (defined ds) only, λ path found. on path (h.1 path found))

  module _ (order : AreInOrder [] ds) (name : List ℕ) (d : Definition) (is : IsDefined ds name d) (w : Written) (body : w ≡ d.body) where
    same_shape : stands ds name ≡ shape_in ds w
    same_shape = ap (stands ds) (sym is.name_is) ∙ body_shape ds is.at d order is.stands ∙ ap (shaped (stands ds)) (sym body)

    only : UsesOnly (defined ds) w
    only = subst (UsesOnly (defined ds)) (sym body) (body_uses ds [] (defined ds) is.at d order is.stands (λ f none. absurd (cc (none))) (λ f known. taken_known ds is.at f known))

    pub goes_in : (from : List ℕ) (j : ℕ) (to : List ℕ) (step : Step) → j < 2 ^ 64 - 1 → wanted_at step ≤ j → Uses w step → LooksSo by index extents w from j to step
        → (s : Shape) (k : ℕ) → j < extent by (stands ds name) → ((path : List ℕ) → IsFound by from (stands ds name) j path → IsFound by [] s k path) → ComesTo by ds s k to step
    goes_in from j to step small less u h s k within on =
        goes_on s k (stands ds name) w from j to step only small less u
        (subst (λ b. Leads by (stands ds) from from b j to step) (sym same_shape) (h (stands ds) (defined ds) kept only)) within on

    same_steps : steps_of ds name ≡ steps (steps_of ds) w
    same_steps = ap (steps_of ds) (sym is.name_is) ∙ body_steps ds is.at d order is.stands ∙ ap (steps (steps_of ds)) (sym body)

    pub further : (step : Step) → Uses w step → steps_at ds step ≤ steps_of ds name
    further (Past left) u = omega arith
    further Here u = omega arith
    further (In f at left) u =
        let less : steps_of ds f.now < steps (steps_of ds) w = u.less (steps_of ds) in
        let same = same_steps in
        omega (arith, less, same)

-- ---- what is found

pub numbered_found : ShapesAreOne → (ds : List Definition) (p : Written) (k : ℕ) (o : Option (List ℕ)) → AreInOrder [] ds → UsesOnly (defined ds) p
    → MatchOption o (extent Number (shape_in ds p) ≤ k) (λ path. IsFound Number [] (shape_in ds p) k path) → MatchOption o ((path : List ℕ) → IsNumbered ds p k path → ⊥) (λ path. IsNumbered ds p k path)
numbered_found law ds p k None order only h = λ path e. not_numbered ds p (shape_in ds p) (λ identifiers. law ds p identifiers order only) k path h e
numbered_found law ds p k (Some path) order only h = is_numbered ds p (shape_in ds p) (λ identifiers. law ds p identifiers order only) k path h

pub deep_found : ShapesAreOne → (ds : List Definition) (p : Written) (n : ℕ) (o : Option (List ℕ)) → AreInOrder [] ds → UsesOnly (defined ds) p
    → MatchOption o (extent Digits (shape_in ds p) ≤ n) (λ path. IsFound Digits [] (shape_in ds p) n path) → MatchOption o ((path : List ℕ) → IsFirstDeep ds p n path → ⊥) (λ path. IsFirstDeep ds p n path)
deep_found law ds p n None order only h = λ path e. not_deep ds p (shape_in ds p) (λ identifiers. law ds p identifiers order only) n path h e
deep_found law ds p n (Some path) order only h = is_deep ds p (shape_in ds p) (λ identifiers. law ds p identifiers order only) n path h
