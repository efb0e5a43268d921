-- Configurations: what there is while a process runs.
use Rattle.std.specs.Prelude.{◌≡◌, ℕ, Bool, false, List, [], ◌∷◌, ◌++◌, Option, Some, None, slice_get, slice_set, Contains, if◌then◌else◌}
use Rattle.sap_terms.specs.Deduce.{IsDeducible}
use Rattle.sap_terms.specs.Normal.{IsNormal}
use Rattle.sap_terms.specs.Piles.{Pile}
use Rattle.sap_terms.specs.Same.{same_tree}
use Rattle.sap_terms.specs.Signature.{Sig}
use Rattle.sap_terms.specs.Equations.{equations}
use Rattle.sap_terms.specs.Tree.{Tree}
use Rattle.sap_process.specs.Head.{Kind, trees}
use Rattle.sap_process.specs.Proc.{Proc}

-- what there is while processes of this kind run
pub record ConfigOf {P : Type 0} (kind : Kind P) : Type 0 where
  -- the names that processes made, and those that the adversary made
  pub made : List ℕ
  pub own : List ℕ
  -- what the store has at a key
  pub store : Tree → Option Tree
  -- the facts of embedded rules by their numbers: none where one was taken
  pub facts : Pile
  -- the running processes by their numbers: none where one has ended
  pub threads : List (Option P)
  -- the terms that were sent, in order
  pub frame : List Tree
  -- whether a term is held
  pub held : Tree → Bool

-- what there is while trees run
abbrev pub Config : Type 0
Config = ConfigOf trees

-- one process runs, and there is nothing else
abbrev pub initial : {P : Type 0} {k : Kind P} → P → ConfigOf k
initial p = record { made = []; own = []; store = λ x. None; facts = []; threads = Some p ∷ []; frame = []; held = λ x. false }

-- thread t is running, as p
abbrev pub Runs : Config → ℕ → Proc → Type 0
Runs c t p = slice_get c.threads t ≡ Some (Some p)

-- thread t is this from now on
abbrev pub becomes : {P : Type 0} {k : Kind P} → ConfigOf k → ℕ → Option P → ConfigOf k
becomes c t o = record c { threads = slice_set c.threads t o }

-- there is a new thread, with the next number
abbrev pub spawns : {P : Type 0} {k : Kind P} → ConfigOf k → P → ConfigOf k
spawns c p = record c { threads = c.threads ++ Some p ∷ [] }

-- a process made the name n
abbrev pub makes : {P : Type 0} {k : Kind P} → ConfigOf k → ℕ → ConfigOf k
makes c n = record c { made = c.made ++ n ∷ [] }

-- the adversary made the name n
abbrev pub owns : {P : Type 0} {k : Kind P} → ConfigOf k → ℕ → ConfigOf k
owns c n = record c { own = c.own ++ n ∷ [] }

-- t was sent, behind all before it
abbrev pub sends_out : {P : Type 0} {k : Kind P} → ConfigOf k → Tree → ConfigOf k
sends_out c t = record c { frame = c.frame ++ t ∷ [] }

-- what the store has at y, once it has o at x
abbrev pub stored : (Tree → Option Tree) → Tree → Option Tree → Tree → Option Tree
stored store x o y = if same_tree x y then o else store y

-- the store has this at x, or nothing
abbrev pub stores : {P : Type 0} {k : Kind P} → ConfigOf k → Tree → Option Tree → ConfigOf k
stores c x o = record c { store = stored c.store x o }

-- whether y is held, once x is held, or isn't, as b says
abbrev pub marked : (Tree → Bool) → Tree → Bool → Tree → Bool
marked held x b y = if same_tree x y then b else held y

-- x is held, or isn't
abbrev pub holding : {P : Type 0} {k : Kind P} → ConfigOf k → Tree → Bool → ConfigOf k
holding c x b = record c { held = marked c.held x b }

-- these are left of the facts
abbrev pub leaves : {P : Type 0} {k : Kind P} → ConfigOf k → Pile → ConfigOf k
leaves c facts = record c { facts = facts }

-- nobody has the name
abbrev pub IsUnused : {P : Type 0} {k : Kind P} → ConfigOf k → ℕ → Type 0
IsUnused c n = (¬ Contains c.made n) × (¬ Contains c.own n)

-- the adversary can give t: it is deducible, and normal
pub record CanGive (g : Sig) {P : Type 0} {k : Kind P} (c : ConfigOf k) (t : Tree) : Type 0 where
  pub deducible : IsDeducible g c.own c.frame t
  pub normal : IsNormal (equations g) t
