-- Which item has a name that is taken.
use Rattle.std.proofs.Common.{ℕ, List, Option, Some, None, MatchOption}
use Rattle.sap_text.specs.declared.token.Token.{Token}
use Rattle.sap_where.specs.declared.find.Beginning.TheVariants.{Definition, Statement}
use Rattle.sap_where.specs.Where.{BeginsAt, HoldsOnce, IsFirst, IsTakenAt, IsTakenNowhere, only_statement}

pub taken_first : (z : List ℕ) (ts : List Token) (x : List ℕ) (o : Option ℕ) → HoldsOnce (BeginsAt z ts Definition x)
    → HoldsOnce (BeginsAt z ts Statement x)
    → MatchOption o ((i : ℕ) → BeginsAt z ts Statement x i → ⊥) (λ k. IsFirst (BeginsAt z ts Statement x) k)
    → MatchOption o (IsTakenNowhere z ts x) (λ k. IsTakenAt z ts x k)
taken_first z ts x None d s m = record { definitions = d; statements = m }
taken_first z ts x (Some k) d s m = only_statement d s m
