-- The names that proofs and the crates above cite, passed on from one place. Declares nothing.
pub use Rattle.signal_link.specs.Feeding.{Feed, IsFed}
pub use Rattle.signal_link.specs.Frames.{frame, header}
unfoldable pub use Rattle.signal_link.specs.Frames.{word_bytes}
pub use Rattle.signal_link.specs.Links.{AreLinks, AreOfWords, is_link, is_within}
pub use Rattle.signal_link.specs.Parts.{IsHead, IsLinked, IsNext, IsOpen, IsPart, IsPushed, begun_of, head_bytes, header_bytes, kept_of, payload_bytes}
pub use Rattle.signal_link.specs.Unframing.{BeginsWithFrame, Finds, IsBeginning, IsGood, Kept, Shows, StandsFor, after_feed, fresh, given}
pub use Rattle.signal_link.specs.declared.header.Header.{Header}
pub use Rattle.signal_link.specs.declared.link_elem.LinkElem.{LinkElem}
pub use Rattle.signal_link.specs.declared.part.Part.{Part}
pub use Rattle.signal_link.specs.declared.payload.Payload.{Payload}
pub use Rattle.signal_link.specs.declared.unframer.Found.{Found}
pub use Rattle.signal_link.specs.declared.unframer.Found.TheVariants.{BadFrame, More, Whole}
pub use Rattle.signal_link.specs.declared.word_head.WordHead.{WordHead}
