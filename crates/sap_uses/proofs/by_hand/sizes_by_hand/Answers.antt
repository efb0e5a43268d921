use Rattle.std.proofs.Common.{◌≡◌, ◌-◌, ◌^◌, ℕ, Bool, true, false, List, [], ◌∷◌, codes, refl, sym, subst, ◌∙◌, arith}
use Rattle.std.specs.Prelude.{if◌then◌else◌}
use Rattle.std.specs.Str.{bytes_eq}
use Rattle.sap_terms.specs.Tree.{node_count, variable}
use Rattle.sap_terms.specs.declared.var.Sort.TheVariants.{Msg}
use Rattle.sap_terms.specs.declared.var.Var.{Var}
use Rattle.sap_terms.proofs.PlainLaws.Known.{apart, one_name, two_names}
use Rattle.sap_macro.specs.Expansion.{put, unchanged}
use Rattle.sap_macro.specs.UpToNames.{named}
use Rattle.sap_uses.specs.Sizes.{cut, size_in}
use Rattle.sap_uses.specs.UseExamples.{twofold, x_of}
use Rattle.sap_uses.proofs.by_hand.sizes_by_hand.Goals as goal

abbrev x_var : Var
x_var = named (codes "x") Msg

pub returns-clause-not_beyond : goal.returns-clause-not_beyond
returns-clause-not_beyond c = λ e. absurd (omega (arith, e))

-- x stands for a term of three nodes, another name for itself
pub returns-clause-have : goal.returns-clause-have
returns-clause-have c = λ v. by v (bytes_eq (codes "x") v.name) refl
  where
    by : (v : Var) (t : Bool) → bytes_eq (codes "x") v.name ≡ t
        → cut (node_count (put (codes "x" ∷ []) (twofold 1 ∷ []) unchanged v)) ≡ cut (size_in (x_of 3) v.name)
    by v true e =
        subst (λ (n : List ℕ). cut (node_count (if bytes_eq (codes "x") n then twofold 1 else variable v)) ≡ cut (size_in (x_of 3) n)) (one_name (codes "x") v.name e) refl
    by v false e =
        let other : bytes_eq v.name (codes "x") ≡ false = apart v.name (codes "x") (λ same. two_names (codes "x") v.name e (sym same)) in
        rw (e, other) refl

pub returns-clause-themselves : goal.returns-clause-themselves
returns-clause-themselves c = λ v. refl

pub returns-clause-not_fewer : goal.returns-clause-not_fewer
returns-clause-not_fewer c = λ h. let e : 7 ≡ 3 = h x_var in omega (arith, e)

pub returns-clause-not_more : goal.returns-clause-not_more
returns-clause-not_more c = λ h. let e : 1 ≡ 3 = h x_var in omega (arith, e)

pub returns-clause-not_unkept : goal.returns-clause-not_unkept
returns-clause-not_unkept c = λ h. let e : 3 ≡ 1 = h x_var in omega (arith, e)

pub returns-clause-as_good : goal.returns-clause-as_good
returns-clause-as_good c = λ r h v. h v ∙ by v (bytes_eq v.name (codes "x")) refl
  where
    by : (v : Var) (t : Bool) → bytes_eq v.name (codes "x") ≡ t → cut (size_in (x_of (2 ^ 64)) v.name) ≡ cut (size_in (x_of (2 ^ 64 - 1)) v.name)
    by v true e = rw e refl
    by v false e = rw e refl
