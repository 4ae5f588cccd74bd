use Rattle.std.proofs.Common.{[], ◌∷◌, ◌++◌, take, drop, sym, arith}
use Rattle.std.proofs.lemmas.List.{length-drop, take-append-drop}
use Rattle.signal_link.specs.Frames.{frame}
use Rattle.signal_link.proofs.Beginnings.{IsCut, cut_where_more, earlier, no_frame_in_a_cut}
use Rattle.signal_link.proofs.Feeds.{no_frame_behind}
use Rattle.signal_link.proofs.laws.cut_frames_show_more.Goals as goal

pub returns-clause-cut : goal.returns-clause-cut
returns-clause-cut c = λ links k ws j good within.
    let cut : IsCut links (take j (frame k ws)) =
    record {
      begins = record { link = k; words = ws; missing = drop j (frame k ws); good = good; is = sym (take-append-drop j (frame k ws)) };
      some = (let d = length-drop j (frame k ws) in omega (arith, d));
    } in
    (cut.begins, no_frame_in_a_cut links (take j (frame k ws)) cut)

pub returns-clause-earliest : goal.returns-clause-earliest
returns-clause-earliest c = λ links bytes after byte shows hopeless.
    let cut = cut_where_more links bytes shows.0 shows.1 in (
      λ b. hopeless (earlier links (bytes ++ byte ∷ []) after b),
      λ w. no_frame_behind links bytes byte after cut hopeless w,
    )
