-- Where a thread stands that runs a process, while both sides rest.
use Rattle.std.proofs.Common.{◌≡◌, ℕ, zero, suc, ◌≤◌, List, [], ◌∷◌, Option, Some, None, refl, sym, ap, ◌∙◌, arith, slice_get, map}
use Rattle.std.specs.Option.{option_map}
use Rattle.sap_terms.specs.Signature.{Sig}
use Rattle.sap_terms.specs.Trace.{Trace}
use Rattle.sap_process.specs.Configuration.{Config, Runs}
use Rattle.sap_process.specs.Instance.{process_instance}
use Rattle.sap_process.specs.Proc as whole
use Rattle.sap_process.specs.Proc.{Proc}
use Rattle.sap_rule.specs.RuleSteps.{RuleState}
use Rattle.sap_translate.specs.relation.Agents.{Agent, unborn, running, copying, awaiting, received, process_of, is_semi, is_unborn}
use Rattle.sap_translate.specs.relation.Answers.{AtRest}
use Rattle.sap_translate.specs.relation.Envs.{Env, chosen}
use Rattle.sap_translate.specs.relation.Totals.{total}

-- the thread stands at a place, or is a replication that has started
pub data Standing (agents : List (Option Agent)) (t : ℕ) (p : Proc) : Type 0 where
  at_place : (path : List ℕ) (env : Env) (body : Proc) → slice_get agents t ≡ Some (Some (running path env body)) → process_instance (chosen env) body ≡ p → Standing agents t p
  has_started : (path : List ℕ) (env : Env) (body : Proc) → slice_get agents t ≡ Some (Some (copying path env body)) → whole.replicated (process_instance (chosen env) body) ≡ p → Standing agents t p

counted : {A : Type 0} (w : A → ℕ) (xs : List A) (t : ℕ) (x : A) → slice_get xs t ≡ Some x → w x ≤ total w xs
counted w [] t x e = absurd (cc)
counted w (y ∷ xs) zero x e = let same : y ≡ x = cc in let h : w y ≡ w x = ap w same in omega arith
counted w (y ∷ xs) (suc t) x e = let h = counted w xs t x e in omega arith

-- the item behind an item of a list that is mapped
behind_map : {A B : Type 0} (f : A → B) (xs : List A) (t : ℕ) (y : B) → slice_get (map f xs) t ≡ Some y → (x : A) × (slice_get xs t ≡ Some x) × (f x ≡ y)
behind_map f [] t y e = absurd (cc)
behind_map f (x ∷ xs) zero y e = (x, refl, (let s : f x ≡ y = cc in s))
behind_map f (x ∷ xs) (suc t) y e = behind_map f xs t y e

pub standing : (g : Sig) (start : Proc) (agents : List (Option Agent)) (c : Config) (tr : Trace) (s : RuleState) (full : Trace) (t : ℕ) (p : Proc) → AtRest g start agents c tr s full → Runs c t p → Standing agents t p
standing g start agents c tr s full t p rest runs =
    let there = behind_map (option_map process_of) agents t (Some p) (ap (λ ts. slice_get ts t) (sym rest.related.threads) ∙ runs) in
    by there.0 there.1 there.2
  where
    by : (o : Option Agent) → slice_get agents t ≡ Some o → option_map process_of o ≡ Some p → Standing agents t p
    by None is e = absurd (cc)
    by (Some (unborn body)) is e = absurd (let low = counted is_unborn agents t (Some (unborn body)) is in let o : is_unborn (Some (unborn body)) ≡ 1 = refl in let z = rest.started in omega arith)
    by (Some (running path env body)) is e = at_place path env body is (let s : process_instance (chosen env) body ≡ p = cc in s)
    by (Some (copying path env body)) is e = has_started path env body is (let s : whole.replicated (process_instance (chosen env) body) ≡ p = cc in s)
    by (Some (awaiting path env m n x y body k)) is e = absurd (let low = counted is_semi agents t (Some (awaiting path env m n x y body k)) is in let o : is_semi (Some (awaiting path env m n x y body k)) ≡ 1 = refl in let z = rest.calm in omega arith)
    by (Some (received path env m n body k)) is e = absurd (let low = counted is_semi agents t (Some (received path env m n body k)) is in let o : is_semi (Some (received path env m n body k)) ≡ 1 = refl in let z = rest.calm in omega arith)
