-- The uses through which one comes along a path.
use Rattle.std.specs.Prelude.{ℕ, ◌+◌, List, [], ◌∷◌}
use Rattle.sap_macro.specs.Located.{Located, call_at}
use Rattle.sap_origin.specs.Definitions.{LocatedDefinition}
use Rattle.sap_origin.specs.Reached.{ReachesBy, Standing, reaches_here, reaches_use, reaches_left, reaches_right, reaches_copy, reaches_behind, reaches_then, reaches_else, reaches_found, reaches_missing, number_of}
use Rattle.sap_origin.specs.declared.trail.Replaced.{Replaced}

-- a use through which one comes: how one stands there, its place, and the definition of its name
pub record UseAt : Type 0 where
  pub standing : Standing
  pub place : Located
  pub definition : LocatedDefinition

-- those through which one comes so, the outermost first
abbrev pub uses_along : {ds : List LocatedDefinition} {v : Replaced} {s z : Standing} {p q : Located}
    {path : List ℕ} → ReachesBy ds v s p path z q → List UseAt
uses_along (reaches_here f) = []
uses_along (reaches_use {s = s} {k = k} {f = f} {ts = ts} {d = d} e g r) =
    record { standing = s; place = call_at k f ts; definition = d } ∷ uses_along r
uses_along (reaches_left r) = uses_along r
uses_along (reaches_right r) = uses_along r
uses_along (reaches_copy r) = uses_along r
uses_along (reaches_behind r) = uses_along r
uses_along (reaches_then r) = uses_along r
uses_along (reaches_else r) = uses_along r
uses_along (reaches_found r) = uses_along r
uses_along (reaches_missing r) = uses_along r

-- how many words of the file are left from its name
abbrev pub word_of : UseAt → ℕ
word_of u = number_of u.place + u.standing.behind
