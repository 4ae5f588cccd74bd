use Rattle.no_stall.proofs.Stalling as by
use Rattle.no_stall.proofs.laws.no_history_stalls.Goals as goal

pub returns : goal.returns
returns c = record {
  quiet = λ p m h sound legal rest. by.quiet p m sound (record {
    short = λ k r event start answers w. c.activations_ask_what_fits.ensures.short p m k r event start answers w;
    begun = λ k r event start answers w. c.activations_ask_what_fits.ensures.begun p m k r event start answers w;
    ends = λ k r event start answers other. c.activations_ask_what_fits.ensures.end p m k r event start answers other;
    admits = λ k r event other start answers. c.admission_comes_first.ensures.own p m k r event other start answers;
    once = λ k r event other start answers. c.admission_comes_first.ensures.once p m k r event other start answers;
    disabled = λ k r event other start answers. c.admission_comes_first.ensures.disabled p m k r event other start answers;
    accepted = λ k r event point start answers. c.hearing_follows_an_accepted_ask.ensures.accepted p m k r event point start answers;
    waits = λ k r event point start answers. c.hearing_follows_an_accepted_ask.ensures.waits p m k r event point start answers;
    callless = λ k r event start answers w. c.direct_activations_make_no_calls.ensures p m k r event start answers w;
    enter = λ k r event area start answers. c.areas_open_and_close.ensures.enter p m k r event area start answers;
    outside = λ k r event start answers w. c.areas_open_and_close.ensures.outside p m k r event start answers w;
    going = λ h k. c.running_activations_go_on.ensures p m h k sound;
    held = λ h area. c.held_areas_have_a_holder.ensures.held p m h area sound;
    queued = λ h point server v most. c.requests_have_servers.ensures.queued p m h point server v most sound;
    direct = λ h point k. c.requests_have_servers.ensures.direct p m h point k sound;
    unstarted = λ h point k. c.requests_have_servers.ensures.unstarted p m h point k sound;
  }) h legal rest;
}
