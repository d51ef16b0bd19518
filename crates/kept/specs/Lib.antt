pub mod SoundKept
