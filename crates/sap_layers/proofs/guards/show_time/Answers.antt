use Rattle.sap_layers.proofs.guards.show_time.Goals as goal

pub admit-requires : goal.admit-requires
admit-requires c = c.has_one_reserved.ensures.0 c.if-has_one_reserved.true
