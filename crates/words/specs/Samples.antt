-- What programs say and what words of the command line mean, as the manual has it.
use Rattle.std.specs.Prelude.{◌≡◌}
use Rattle.lines.specs.Ascii.{bytes}
use Rattle.words.specs.declared.Word.{Word}
use Rattle.words.specs.Message.{cannot, refused_at, ends_at, not_taken_text}
use Rattle.words.specs.File.{part_of}
use Rattle.words.specs.Word.{meaning_of}

pub record AsInManual : Type 0 where
  -- "The listing"
  pub ends : ends_at (bytes "listing") (bytes "FILE") 13 17 ≡ bytes "listing: FILE: the journal ends inside a record, refusal 13 at offset 17\n"
  pub no_reading : cannot (bytes "listing") (bytes "read") (bytes "FILE") ≡ bytes "listing: cannot read FILE"
  pub not_taken : not_taken_text (bytes "listing") (bytes "unknown option") (bytes "-x") ≡ bytes "listing: unknown option -x\n"
  pub hyphen : meaning_of (bytes "-") ≡ Word.Operand
  pub two_hyphens : meaning_of (bytes "--") ≡ Word.EndOfOptions
  pub help : meaning_of (bytes "--help") ≡ Word.Help
  pub option : meaning_of (bytes "-x") ≡ Word.UnknownOption
  -- "Old journals"
  pub refused : refused_at (bytes "convert_pages") (bytes "convert") (bytes "OLD") 13 27
      ≡ bytes "convert_pages: cannot convert OLD: the journal ends inside a record, refusal 13 at offset 27\n"
  pub part : part_of (bytes "NEW") ≡ bytes "NEW.part"
