pub mod FilesAnswered
