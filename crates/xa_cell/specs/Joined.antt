-- How a seat comes into another with all that it knows. No public contract rests on this file.
use Rattle.std.specs.Prelude.{◌+◌, List, [], ◌∷◌, ◌++◌}
use Rattle.xa_cell.specs.declared.view.Part.{Part}
use Rattle.xa_cell.specs.declared.view.View.{View}

module _ {A : Type 0} where
  -- two parts of one cell
  abbrev pub with : Part A → Part A → Part A
  with p q = record {
    owners = p.owners ++ q.owners;
    count = p.count + q.count;
    asked = p.asked ++ q.asked;
    settled = p.settled + q.settled;
    tickets = p.tickets ++ q.tickets;
    filling = p.filling + q.filling;
    taking = p.taking + q.taking;
    late = p.late + q.late;
    given_up = p.given_up ++ q.given_up;
    dropped = p.dropped ++ q.dropped;
    taken = p.taken ++ q.taken;
    filled = p.filled ++ q.filled;
  }

  abbrev pub all_with : List (Part A) → List (Part A) → List (Part A)
  all_with [] qs = qs
  all_with (p ∷ ps) [] = p ∷ ps
  all_with (p ∷ ps) (q ∷ qs) = with p q ∷ all_with ps qs

  -- two views
  abbrev pub both : View A → View A → View A
  both v w = record { callers = v.callers ++ w.callers; parts = all_with v.parts w.parts; deeds = v.deeds ++ w.deeds }
