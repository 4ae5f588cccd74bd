use Rattle.task_slots.proofs.Wishes.{acting, next_is, may_be_tried, names_own, direct_ends, asks_first, asks_further}
use Rattle.task_slots.proofs.asking.what_is_asked_may_be_tried.Goals as goal

pub returns-clause-tried : goal.returns-clause-tried
returns-clause-tried c = λ p m k r event start answers w sound fit a.
    let of = acting p m sound k fit r a.there event a.starts in
    let asks = c.activations_ask_what_fits.ensures in
    may_be_tried p m sound k fit r a.there event start answers w a
    (λ who v fits. c.sound_plans_have_objects.ensures.touched p m who v sound fits)
    (λ next. asks.fits p m k r event start answers w of next) (λ next. asks.own p m k r event start answers w of next)
    (λ next none. c.what_touches_nothing.ensures p m k r event start answers w of next none)
    (λ q next. c.hearing_follows_an_accepted_ask.ensures.accepted p m k r event q start answers of next)

pub returns-clause-begun : goal.returns-clause-begun
returns-clause-begun c = λ p m k r event start answers w sound fit a.
    c.activations_ask_what_fits.ensures.begun p m k r event start answers w (acting p m sound k fit r a.there event a.starts) (next_is p m sound k fit r a.there event start answers w a)

pub returns-clause-own : goal.returns-clause-own
returns-clause-own c = λ p m k r event other start answers w sound fit a named.
    let of = acting p m sound k fit r a.there event a.starts in
    names_own p m sound k fit r a.there event start answers w a
    (λ e next. c.activations_ask_what_fits.ensures.end p m k r event start answers e of next)
    (λ e next. c.admission_comes_first.ensures.own p m k r event e start answers of next) other named

pub returns-clause-alone : goal.returns-clause-alone
returns-clause-alone c = λ p m k r event start answers w sound fit a directly.
    c.direct_activations_make_no_calls.ensures p m k r event start answers w (acting p m sound k fit r a.there event a.starts) directly (next_is p m sound k fit r a.there event start answers w a)

pub returns-clause-ends : goal.returns-clause-ends
returns-clause-ends c = λ p m k r event other start answers w sound fit a directly named.
    direct_ends p m sound k fit r a.there event start answers w a
    (λ e next. c.admission_comes_first.ensures.disabled p m k r event e start answers (acting p m sound k fit r a.there event a.starts) next) directly other named

pub returns-clause-first : goal.returns-clause-first
returns-clause-first c = λ p m k r event start sound fit there starts.
    asks_first p m sound k fit r there event start starts
    (λ answers followed going. c.activations_go_on.ensures p m k r event start answers (acting p m sound k fit r there event starts) followed going)

pub returns-clause-further : goal.returns-clause-further
returns-clause-further c = λ p m k r event start answers d sound fit a over answer.
    asks_further p m sound k fit r a.there event start answers d a over answer
    (λ more followed going. c.activations_go_on.ensures p m k r event start more (acting p m sound k fit r a.there event a.starts) followed going)
