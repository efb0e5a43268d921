-- What a walk meets, and where it comes through uses.
use Rattle.std.specs.Prelude.{◌≡◌, ◌<◌, ◌≤◌, ℕ, List, Option, None, Some, if◌then◌else◌}
use Rattle.std.specs.Option.{option_or}
use Rattle.sap_terms.specs.Tree.{Tree}
use Rattle.sap_macro.specs.Sources.{definition_of, written}
use Rattle.sap_macro.specs.Written.{Written, Definition}
use Rattle.sap_macro.specs.Walked.{steps_in}
use Rattle.sap_uses.specs.Sizes.{size_in}
use Rattle.sap_uses.specs.code.Walks.{Sizes, has_heavy, heavy, put_sizes, sizes_of}
use Rattle.sap_uses.specs.declared.large.Reached.{Reached}
use Rattle.sap_uses.specs.declared.large.Reached.TheVariants.{Large, Body}
use Rattle.sap_uses.specs.declared.met.Met.{Met}
use Rattle.sap_uses.specs.declared.met.Met.TheVariants.{Nothing, Plain, Use, One, Two}

-- what is found at a use of the definition, where names have these sizes
abbrev pub used : List Definition → Definition → Sizes → List Tree → Option (List ℕ)
used ds d z ts =
    if has_heavy z ts then Some d.name else heavy ds (put_sizes d.params (sizes_of z ts)) d.body

-- nothing is found
pub record IsNothing (ds : List Definition) (w : Written) : Type 0 where
  pub found : (z : Sizes) → heavy ds z w ≡ None

-- what is found is found in this process
pub record IsOne (ds : List Definition) (w p : Written) : Type 0 where
  pub found : (z : Sizes) → heavy ds z w ≡ heavy ds z p
  pub further : steps_in ds p < steps_in ds w

-- in these
pub record IsTwo (ds : List Definition) (w p q : Written) : Type 0 where
  pub found : (z : Sizes) → heavy ds z w ≡ option_or (heavy ds z p) (heavy ds z q)
  pub first : steps_in ds p < steps_in ds w
  pub second : steps_in ds q < steps_in ds w

-- at this use
pub record IsUse (ds : List Definition) (w : Written) (d : Definition) (ts : List Tree)
    : Type 0 where
  pub found : (z : Sizes) → heavy ds z w ≡ used ds d z ts
  pub further : steps_in ds d.body < steps_in ds w

-- this is met at the process
abbrev pub IsMet : List Definition → Met → Written → Type 0
IsMet ds Nothing w = IsNothing ds w
IsMet ds (Plain p) w = IsOne ds w (written p.now)
IsMet ds (Use d ts) w = IsUse ds w (definition_of d.now) ts.now
IsMet ds (One p) w = IsOne ds w (written p.now)
IsMet ds (Two p q) w = IsTwo ds w (written p.now) (written q.now)

-- where a walk comes from a use of the definition
pub record IsBehind (ds : List Definition) (z : Sizes) (d : Definition) (ts : List Tree)
    (inner : Sizes) (w : Written) : Type 0 where
  pub found : used ds d z ts ≡ heavy ds inner w
  pub further : steps_in ds w ≤ steps_in ds d.body

abbrev pub IsReached : List Definition → Sizes → Definition → List Tree → Reached → Type 0
IsReached ds z d ts (Large n) = used ds d z ts ≡ Some n.now
IsReached ds z d ts (Body sizes p) = IsBehind ds z d ts (size_in sizes) (written p.now)

-- so it is from a use by itself, behind any definitions
abbrev pub IsEntered : Sizes → Definition → List Tree → Reached → Type 0
IsEntered z d ts r = (ds : List Definition) → IsReached ds z d ts r
