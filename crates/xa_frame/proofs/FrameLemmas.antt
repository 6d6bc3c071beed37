-- Frames, one after another.
use Rattle.std.proofs.Common.{◌≡◌, List, [], ◌∷◌, ◌++◌, sym}
use Rattle.std.proofs.lemmas.Grind.{flat_map-append}
use Rattle.std.proofs.lemmas.List.{flat_map_more}
use Rattle.xa_frame.specs.declared.frame.Frame.{Frame}
use Rattle.xa_frame.specs.Spelling.{spelled, all_spelled}

pub all_spelled-append : (fs gs : List Frame) → all_spelled (fs ++ gs) ≡ all_spelled fs ++ all_spelled gs
all_spelled-append = flat_map-append spelled

pub all_spelled-push : (fs : List Frame) (f : Frame) → all_spelled (fs ++ f ∷ []) ≡ all_spelled fs ++ spelled f
all_spelled-push fs f = sym (flat_map_more spelled [] fs f)
