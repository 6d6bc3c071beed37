-- Events: what is read is spelled so, and what is spelled so is read.
use Rattle.std.proofs.Common.{◌≡◌, ℕ, ◌^◌, ◌<◌, true, List, [], ◌∷◌, ◌++◌, Some, None, Result, Ok, Err, refl, sym, ap, ◌∙◌, decimal, codes}
use Rattle.std.specs.Prelude.{IfOk, IfErr}
use Rattle.std.specs.List.{list_all}
use Rattle.xa_types.specs.Name.{IsName}
use Rattle.std.proofs.lemmas.Option.{same_Some}
use Rattle.xa_events.specs.declared.event.Event.{Event}
use Rattle.xa_events.specs.declared.event.Event.TheVariants as events
use Rattle.xa_lines.specs.Line.{event_words, joined, line_of, IsEvent}
use Rattle.xa_lines.specs.declared.refusal.EventRefused.{EventRefused}
use Rattle.xa_lines.specs.declared.refusal.EventRefused.TheVariants as refusals
use Rattle.xa_lines.specs.Reading.{Makes, by_word, whole, split, way_at, advertised, withdrawn, accepted, taken, forwarded, swept, gone, down, closed, left, ticked, started, not_started, ended, stopped, answered, cancelled, broken, lapsed, denied, unready, sent, received, prioritized, advertise_at, withdraw_at, accept_at, take_at, forward_at, sweep_at, tick_at, ended_at, stop_at, answered_at, lapse_at, refuse_at, not_yet_at, send_at, receive_at, priority_at, event_form, event_of}
use Rattle.xa_lines.proofs.Cutting.{is_word, joined_split, split_joined}
use Rattle.xa_lines.proofs.Combining.{Words, IsField, both_is, said_again, Spells, chosen, by_word_is, whole_takes, whole_again}
use Rattle.xa_lines.proofs.Parts.{number_8, number_16, number_64, signed_are, names_are, request_are, truths_are, modes_are, faults_are, data_is, requests_are, outcome_is, cause_is, answer_is, item_is, evidence_is, call_is, life_is}

way_is : IsField way_at (λ v. decimal v.0 ∷ v.1.0 ∷ decimal v.1.1.0 ∷ v.1.1.1.0 ∷ decimal v.1.1.1.1 ∷ [])
    (λ v. (v.0 < 2 ^ 64) × (IsName v.1.0 × ((v.1.1.0 < 2 ^ 16) × (IsName v.1.1.1.0 × (v.1.1.1.1 < 2 ^ 8)))))
way_is = both_is number_64 (both_is names_are (both_is number_16 (both_is names_are number_8)))

event_taken : (word : List ℕ) (words : Words) (x : Event × Words) → event_form word words ≡ Some x → Spells event_words IsEvent word words x
unfolding take_at ended_at answered_at accept_at send_at receive_at forward_at advertise_at withdraw_at sweep_at tick_at stop_at lapse_at refuse_at not_yet_at priority_at
event_taken word words x =
    chosen (both_is request_are (both_is life_is number_64)) taken event_words IsEvent (codes "Take") (λ v. refl) (λ v p. (p.0, p.1.0, p.1.1)) word words x _
    (chosen (both_is request_are (both_is life_is outcome_is)) ended event_words IsEvent (codes "End") (λ v. refl) (λ v p. (p.0, p.1.0, p.1.1)) word words x _
    (chosen (both_is call_is (both_is request_are answer_is)) answered event_words IsEvent (codes "Answer") (λ v. refl) (λ v p. (p.0, p.1.0, p.1.1)) word words x _
    (chosen (both_is call_is (both_is request_are (both_is way_is (both_is modes_are data_is)))) accepted event_words IsEvent (codes "Accept") (λ v. refl) (λ v p. (p.0, p.1.0, p.1.1.0.0, p.1.1.0.1.0, p.1.1.0.1.1.0, p.1.1.0.1.1.1.0, p.1.1.0.1.1.1.1, p.1.1.1.1)) word words x _
    (chosen (both_is call_is (both_is request_are (both_is data_is truths_are))) sent event_words IsEvent (codes "Send") (λ v. refl) (λ v p. (p.0, p.1.0, p.1.1.0)) word words x _
    (chosen (both_is call_is (both_is request_are item_is)) received event_words IsEvent (codes "Receive") (λ v. refl) (λ v p. (p.0, p.1.0, p.1.1)) word words x _
    (chosen (both_is request_are (both_is life_is (both_is number_8 (both_is way_is data_is)))) forwarded event_words IsEvent (codes "Forward") (λ v. refl) (λ v p. (p.0, p.1.0, p.1.1.0, p.1.1.1.0.0, p.1.1.1.0.1.0, p.1.1.1.0.1.1.0, p.1.1.1.0.1.1.1.0, p.1.1.1.0.1.1.1.1, p.1.1.1.1)) word words x _
    (chosen (both_is call_is (both_is names_are (both_is number_16 (both_is names_are number_64)))) advertised event_words IsEvent (codes "Advertise") (λ v. refl) (λ v p. (p.0, p.1.0, p.1.1.0, p.1.1.1.0, p.1.1.1.1)) word words x _
    (chosen (both_is call_is (both_is names_are (both_is number_16 number_64))) withdrawn event_words IsEvent (codes "Withdraw") (λ v. refl) (λ v p. (p.0, p.1.0, p.1.1.0, p.1.1.1)) word words x _
    (chosen (both_is request_are number_16) swept event_words IsEvent (codes "Sweep") (λ v. refl) (λ v p. p) word words x _
    (chosen number_16 gone event_words IsEvent (codes "Gone") (λ v. refl) (λ v p. p) word words x _
    (chosen number_16 down event_words IsEvent (codes "Down") (λ v. refl) (λ v p. p) word words x _
    (chosen number_16 closed event_words IsEvent (codes "Close") (λ v. refl) (λ v p. p) word words x _
    (chosen (both_is call_is number_64) ticked event_words IsEvent (codes "Tick") (λ v. refl) (λ v p. p) word words x _
    (chosen (both_is life_is number_64) started event_words IsEvent (codes "Start") (λ v. refl) (λ v p. p) word words x _
    (chosen (both_is life_is number_64) not_started event_words IsEvent (codes "StartFailed") (λ v. refl) (λ v p. p) word words x _
    (chosen (both_is life_is cause_is) stopped event_words IsEvent (codes "Stop") (λ v. refl) (λ v p. p) word words x _
    (chosen (both_is call_is request_are) cancelled event_words IsEvent (codes "Cancel") (λ v. refl) (λ v p. p) word words x _
    (chosen (both_is call_is (both_is requests_are (both_is truths_are (both_is number_64 number_64)))) lapsed event_words IsEvent (codes "Lapse") (λ v. refl) (λ v p. (p.0, p.1.0, p.1.1.1.0, p.1.1.1.1)) word words x _
    (chosen (both_is call_is (both_is faults_are evidence_is)) denied event_words IsEvent (codes "Refuse") (λ v. refl) (λ v p. (p.0, p.1.1)) word words x _
    (chosen (both_is call_is requests_are) unready event_words IsEvent (codes "NotYet") (λ v. refl) (λ v p. p) word words x _
    (chosen number_16 left event_words IsEvent (codes "Leave") (λ v. refl) (λ v p. p) word words x _
    (chosen (both_is call_is request_are) broken event_words IsEvent (codes "Break") (λ v. refl) (λ v p. p) word words x _
    (chosen (both_is call_is (both_is truths_are signed_are)) prioritized event_words IsEvent (codes "Priority") (λ v. refl) (λ v p. (p.0, p.1.1)) word words x None (λ h. absurd cc))))))))))))))))))))))))

event_again : (v : Event) (rest : Words) → IsEvent v → by_word event_form (event_words v ++ rest) ≡ Some (v, rest)
unfolding take_at ended_at answered_at accept_at send_at receive_at forward_at advertise_at withdraw_at sweep_at tick_at stop_at lapse_at refuse_at not_yet_at priority_at
event_again (events.Take e) rest h = said_again (both_is request_are (both_is life_is number_64)) taken (e.request, ((e.server.0, e.generation.0), e.k)) rest (h.0, (h.1, h.2))
event_again (events.End e) rest h = said_again (both_is request_are (both_is life_is outcome_is)) ended (e.request, ((e.server.0, e.generation.0), e.outcome)) rest (h.0, (h.1, h.2))
event_again (events.Answer e) rest h = said_again (both_is call_is (both_is request_are answer_is)) answered ((e.by.0, e.op), (e.request, e.answer)) rest (h.0, (h.1, h.2))
event_again (events.Accept e) rest h = said_again (both_is call_is (both_is request_are (both_is way_is (both_is modes_are data_is)))) accepted ((e.by.0, e.op), (e.request, ((e.version, (e.service, (e.queue.0, (e.routine, e.priority)))), (e.mode, e.payload)))) rest (h.0, (h.1, ((h.2, (h.3, (h.4, (h.5, h.6)))), (tt, h.7))))
event_again (events.Send e) rest h = said_again (both_is call_is (both_is request_are (both_is data_is truths_are))) sent ((e.by.0, e.op), (e.request, (e.payload, e.passes))) rest (h.0, (h.1, (h.2, tt)))
event_again (events.Receive e) rest h = said_again (both_is call_is (both_is request_are item_is)) received ((e.by.0, e.op), (e.request, e.item)) rest (h.0, (h.1, h.2))
event_again (events.Forward e) rest h = said_again (both_is request_are (both_is life_is (both_is number_8 (both_is way_is data_is)))) forwarded (e.request, ((e.server.0, e.generation.0), (e.hop, ((e.version, (e.service, (e.queue.0, (e.routine, e.priority)))), e.payload)))) rest (h.0, (h.1, (h.2, ((h.3, (h.4, (h.5, (h.6, h.7)))), h.8))))
event_again (events.Advertise e) rest h = said_again (both_is call_is (both_is names_are (both_is number_16 (both_is names_are number_64)))) advertised ((e.by.0, e.op), (e.service, (e.queue.0, (e.routine, e.version)))) rest (h.0, (h.1, (h.2, (h.3, h.4))))
event_again (events.Withdraw e) rest h = said_again (both_is call_is (both_is names_are (both_is number_16 number_64))) withdrawn ((e.by.0, e.op), (e.service, (e.queue.0, e.version))) rest (h.0, (h.1, (h.2, h.3)))
event_again (events.Sweep e) rest h = said_again (both_is request_are number_16) swept (e.request, e.queue.0) rest h
event_again (events.Gone server) rest h = said_again number_16 gone server.0 rest h
event_again (events.Down queue) rest h = said_again number_16 down queue.0 rest h
event_again (events.Close queue) rest h = said_again number_16 closed queue.0 rest h
event_again (events.Tick e) rest h = said_again (both_is call_is number_64) ticked ((e.by.0, e.op), e.now) rest h
event_again (events.Start e) rest h = said_again (both_is life_is number_64) started ((e.server.0, e.generation.0), e.tick) rest h
event_again (events.StartFailed e) rest h = said_again (both_is life_is number_64) not_started ((e.server.0, e.generation.0), e.tick) rest h
event_again (events.Stop e) rest h = said_again (both_is life_is cause_is) stopped ((e.server.0, e.generation.0), e.cause) rest h
event_again (events.Cancel e) rest h = said_again (both_is call_is request_are) cancelled ((e.by.0, e.op), e.request) rest h
event_again (events.Lapse e) rest h = said_again (both_is call_is (both_is requests_are (both_is truths_are (both_is number_64 number_64)))) lapsed ((e.by.0, e.op), (e.requests, (e.of_call, (e.now, e.deadline)))) rest (h.0, (h.1, (tt, (h.2, h.3))))
event_again (events.Refuse e) rest h = said_again (both_is call_is (both_is faults_are evidence_is)) denied ((e.by.0, e.op), (e.fault, e.evidence)) rest (h.0, (tt, h.1))
event_again (events.NotYet e) rest h = said_again (both_is call_is requests_are) unready ((e.by.0, e.op), e.requests) rest h
event_again (events.Leave client) rest h = said_again number_16 left client.0 rest h
event_again (events.Break e) rest h = said_again (both_is call_is request_are) broken ((e.by.0, e.op), e.request) rest h
event_again (events.Priority e) rest h = said_again (both_is call_is (both_is truths_are signed_are)) prioritized ((e.by.0, e.op), (e.absolute, e.amount)) rest (h.0, (tt, h.1))

pub event_inner : (v : Event) → IsEvent v → list_all is_word (event_words v) ≡ true
event_inner (events.Take e) h = (both_is request_are (both_is life_is number_64)).inner (e.request, ((e.server.0, e.generation.0), e.k)) (h.0, (h.1, h.2))
event_inner (events.End e) h = (both_is request_are (both_is life_is outcome_is)).inner (e.request, ((e.server.0, e.generation.0), e.outcome)) (h.0, (h.1, h.2))
event_inner (events.Answer e) h = (both_is call_is (both_is request_are answer_is)).inner ((e.by.0, e.op), (e.request, e.answer)) (h.0, (h.1, h.2))
event_inner (events.Accept e) h = (both_is call_is (both_is request_are (both_is way_is (both_is modes_are data_is)))).inner ((e.by.0, e.op), (e.request, ((e.version, (e.service, (e.queue.0, (e.routine, e.priority)))), (e.mode, e.payload)))) (h.0, (h.1, ((h.2, (h.3, (h.4, (h.5, h.6)))), (tt, h.7))))
event_inner (events.Send e) h = (both_is call_is (both_is request_are (both_is data_is truths_are))).inner ((e.by.0, e.op), (e.request, (e.payload, e.passes))) (h.0, (h.1, (h.2, tt)))
event_inner (events.Receive e) h = (both_is call_is (both_is request_are item_is)).inner ((e.by.0, e.op), (e.request, e.item)) (h.0, (h.1, h.2))
event_inner (events.Forward e) h = (both_is request_are (both_is life_is (both_is number_8 (both_is way_is data_is)))).inner (e.request, ((e.server.0, e.generation.0), (e.hop, ((e.version, (e.service, (e.queue.0, (e.routine, e.priority)))), e.payload)))) (h.0, (h.1, (h.2, ((h.3, (h.4, (h.5, (h.6, h.7)))), h.8))))
event_inner (events.Advertise e) h = (both_is call_is (both_is names_are (both_is number_16 (both_is names_are number_64)))).inner ((e.by.0, e.op), (e.service, (e.queue.0, (e.routine, e.version)))) (h.0, (h.1, (h.2, (h.3, h.4))))
event_inner (events.Withdraw e) h = (both_is call_is (both_is names_are (both_is number_16 number_64))).inner ((e.by.0, e.op), (e.service, (e.queue.0, e.version))) (h.0, (h.1, (h.2, h.3)))
event_inner (events.Sweep e) h = (both_is request_are number_16).inner (e.request, e.queue.0) h
event_inner (events.Gone server) h = number_16.inner server.0 h
event_inner (events.Down queue) h = number_16.inner queue.0 h
event_inner (events.Close queue) h = number_16.inner queue.0 h
event_inner (events.Tick e) h = (both_is call_is number_64).inner ((e.by.0, e.op), e.now) h
event_inner (events.Start e) h = (both_is life_is number_64).inner ((e.server.0, e.generation.0), e.tick) h
event_inner (events.StartFailed e) h = (both_is life_is number_64).inner ((e.server.0, e.generation.0), e.tick) h
event_inner (events.Stop e) h = (both_is life_is cause_is).inner ((e.server.0, e.generation.0), e.cause) h
event_inner (events.Cancel e) h = (both_is call_is request_are).inner ((e.by.0, e.op), e.request) h
event_inner (events.Lapse e) h = (both_is call_is (both_is requests_are (both_is truths_are (both_is number_64 number_64)))).inner ((e.by.0, e.op), (e.requests, (e.of_call, (e.now, e.deadline)))) (h.0, (h.1, (tt, (h.2, h.3))))
event_inner (events.Refuse e) h = (both_is call_is (both_is faults_are evidence_is)).inner ((e.by.0, e.op), (e.fault, e.evidence)) (h.0, (tt, h.1))
event_inner (events.NotYet e) h = (both_is call_is requests_are).inner ((e.by.0, e.op), e.requests) h
event_inner (events.Leave client) h = number_16.inner client.0 h
event_inner (events.Break e) h = (both_is call_is request_are).inner ((e.by.0, e.op), e.request) h
event_inner (events.Priority e) h = (both_is call_is (both_is truths_are signed_are)).inner ((e.by.0, e.op), (e.absolute, e.amount)) (h.0, (tt, h.1))

event_is : IsField (by_word event_form) event_words IsEvent
event_is = by_word_is event_form event_words IsEvent event_taken event_again event_inner

-- what is read of a line has that line
pub line_read : (line : List ℕ) (event : Event) → event_of (split line) ≡ Some event → (line_of event ≡ line) × IsEvent event
unfolding event_of
line_read line event e =
    let t = whole_takes event_is (split line) event e in
    (ap joined (sym t.0) ∙ joined_split line, t.1)

again_cut : (words : Words) (event : Event) → list_all is_word words ≡ true → whole (by_word event_form) words ≡ Some event → split (joined words) ≡ words
again_cut [] event h e = absurd cc
again_cut (word ∷ words) event h e = split_joined word words h

-- the line of an event is read as that event
pub line_again : (event : Event) → IsEvent event → event_of (split (line_of event)) ≡ Some event
unfolding event_of
line_again event h =
    let read = whole_again event_is event h in
    ap (whole (by_word event_form)) (again_cut (event_words event) event (event_inner event h) read) ∙ read

-- ---- what reading gives, as an answer

abbrev pub Answer : Type 0
Answer = Result Event EventRefused

pub line_ok : (line : List ℕ) (r : Answer) → Makes (λ (event : Event). event) r (event_of (split line)) → IfOk r (λ event. line_of event ≡ line)
line_ok line (Ok event) made = (line_read line event made).0
line_ok line (Err why) made = tt

pub line_fits : (line : List ℕ) (r : Answer) → Makes (λ (event : Event). event) r (event_of (split line)) → IfOk r (λ event. IsEvent event)
line_fits line (Ok event) made = (line_read line event made).1
line_fits line (Err why) made = tt

pub line_refused : (line : List ℕ) (r : Answer) → Makes (λ (event : Event). event) r (event_of (split line))
    → IfErr r (λ why. why ≡ refusals.NoEvent → (event : Event) → IsEvent event → line_of event ≡ line → ⊥)
line_refused line (Ok event) made = tt
line_refused line (Err refusals.NoEvent) made = λ why event fits same. cc (sym made ∙ ap (λ (xs : List ℕ). event_of (split xs)) (sym same) ∙ line_again event fits)
line_refused line (Err refusals.NoMemory) made = λ why. absurd cc

-- events with the same line are the same
pub one_event : (event other : Event) → IsEvent event → IsEvent other → line_of event ≡ line_of other → event ≡ other
one_event event other x y same = same_Some event other (sym (line_again event x) ∙ ap (λ (xs : List ℕ). event_of (split xs)) same ∙ line_again other y)
