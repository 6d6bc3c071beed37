-- Among the rows of the board no two are of one service on one queue.
use Rattle.std.proofs.Common.{◌≡◌, ◌≢◌, ℕ, ◌<◌, ◌-◌, drop, ◌==◌, ◌&&◌, not, Bool, true, false, List, [], ◌∷◌, length, get_or, Option, Some, None, refl, sym, ◌∙◌, ap, arith, eq-eqb}
use Rattle.std.specs.List.{AllPairs, filter}
use Rattle.std.specs.Str.{bytes_eq}
use Rattle.std.proofs.lemmas.List.Elements.{All-get_or, filter_passes}
use Rattle.std.proofs.lemmas.List.Kept.{AllPairs-filter}
use Rattle.std.proofs.lemmas.List.Quantifiers.{all_pairs_push}
use Rattle.std.proofs.lemmas.Slice.Eq.{bytes_eq-Decides}
use Rattle.std.specs.Cmp.Derive.{both_true}
use Rattle.xa_types.specs.declared.row.Row.{Row}
use Rattle.xa_types.specs.declared.setup.Setup.{Setup}
use Rattle.xa_types.specs.declared.setup.ServiceSetup.{ServiceSetup}
use Rattle.xa_types.specs.Setup.{service_named}
use Rattle.xa_types.specs.Rows.{Change, is_row_of, row_with, row_for, rows, rows_at, listed, same_truth}
use Rattle.xa_types.specs.Rows.Change.{Put, Remove}

-- rows of one service are on two queues
abbrev Differ : Row → Row → Type 0
Differ x y = x.service ≡ y.service → x.queue ≢ y.queue

service-row_with : (configured : Option ServiceSetup) (service : List ℕ) (queue : ℕ) (routine : List ℕ) → (row_with configured service queue routine).service ≡ service
service-row_with None service queue routine = refl
service-row_with (Some configured) service queue routine = refl

queue-row_with : (configured : Option ServiceSetup) (service : List ℕ) (queue : ℕ) (routine : List ℕ) → (row_with configured service queue routine).queue.0 ≡ queue
queue-row_with None service queue routine = refl
queue-row_with (Some configured) service queue routine = refl

-- a row that isn't of that service on that queue differs from one that is
is_other : (service : List ℕ) (queue : ℕ) (x y : Row) → y.service ≡ service → y.queue.0 ≡ queue → not (is_row_of service queue x) ≡ true → Differ x y
is_other service queue x y of_service on_queue passes same_service same_queue =
    let named : bytes_eq x.service service ≡ true = (bytes_eq-Decides x.service service).1 (same_service ∙ of_service) in
    let placed : (x.queue.0 == queue) ≡ true = eq-eqb x.queue.0 queue (ap (λ q. q.0) same_queue ∙ on_queue) in
    let is_row : is_row_of service queue x ≡ true = both_true named placed in
    let never : not true ≡ true = ap not (sym is_row) ∙ passes in
    grind arith

AllPairs-rows : (setup : Setup) (changes : List Change) → AllPairs Differ (rows setup changes)
AllPairs-rows setup [] = λ i j d before inside. grind arith
AllPairs-rows setup (Put service queue routine ∷ earlier) =
    let others = λ (row : Row). not (is_row_of service queue row) in
    let kept = filter others (rows setup earlier) in
    let new = row_for setup service queue routine in
    all_pairs_push Differ kept new (AllPairs-filter Differ others (rows setup earlier) (AllPairs-rows setup earlier))
    (λ k d inside. is_other service queue (get_or kept k d) new
    (service-row_with (service_named setup service) service queue routine)
    (queue-row_with (service_named setup service) service queue routine)
    (All-get_or (λ (row : Row). others row ≡ true) kept k d inside (filter_passes others (rows setup earlier))))
AllPairs-rows setup (Remove service queue ∷ earlier) =
    AllPairs-filter Differ (λ (row : Row). not (is_row_of service queue row)) (rows setup earlier) (AllPairs-rows setup earlier)

first_holds : (a b : Bool) → (a && b) ≡ true → a ≡ true
first_holds true b both = refl
first_holds false b both = both

-- of the rows that a call of a service sees no two are on one queue
pub AllPairs-listed : (setup : Setup) (changes : List Change) (v : ℕ) (service : List ℕ) (conversational : Bool) → AllPairs (λ x y. x.queue ≢ y.queue) (listed setup changes v service conversational)
AllPairs-listed setup changes v service conversational i j d before inside =
    let standing = rows_at setup changes v in
    let seen = λ (row : Row). bytes_eq row.service service && same_truth row.conversational conversational in
    let found = listed setup changes v service conversational in
    let named : (k : ℕ) → k < length found → (get_or found k d).service ≡ service = λ k within.
    (bytes_eq-Decides (get_or found k d).service service).0
    (first_holds _ (same_truth (get_or found k d).conversational conversational)
    (All-get_or (λ (row : Row). seen row ≡ true) found k d within (filter_passes seen standing))) in
    let differ = AllPairs-filter Differ seen standing (AllPairs-rows setup (drop (length changes - v) changes)) in
    differ i j d before inside (named i (omega arith) ∙ sym (named j inside))
