-- How far a prefix agrees with the bytes of a key: on so many bytes from the front.
pub use Rattle.art_bytes.specs.Keys.{agreeing}
