-- A few threads and roles, to try by hand which one of its role a thread is.
use Rattle.std.specs.Prelude.{List, [], ◌∷◌}
use Rattle.sap_players.specs.Numbers.{Player}

-- thread 4 does something in role 0, thread 2 in role 1, thread 7 in role 0, thread 4 again, then in role 1, and thread 2 in role 0
abbrev pub interleaved : List Player
interleaved = (4, 0) ∷ (2, 1) ∷ (7, 0) ∷ (4, 0) ∷ (4, 1) ∷ (2, 0) ∷ []

abbrev pub none_done : List Player
none_done = []
